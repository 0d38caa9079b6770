-- The contracts of the parts of `scripts`: how a plan's body, in register order behind the raised speeds, makes its writes.
-- Assumes nothing.
use Rattle.std.specs.Prelude.{ℕ, zero, suc, ◌+◌, ◌-◌, ◌*◌, ◌/◌, ◌^◌, ◌≤◌, ◌<◌, ◌≡◌, Bool, cond, List, [], ◌∷◌, ◌++◌, map, ltb, length, get_or, drop, Result}
use Rattle.refusal.specs.declared.Refusal.{Refusal}
use Rattle.refusal.specs.Answers.{tells_amount}
use Rattle.refusal.specs.Checks.{told, left, room_checks}
use Rattle.pages.specs.declared.Chip.{Chip}
use Rattle.pages.specs.declared.Register.{Register}
use Rattle.pages.specs.Banks.{no_bank, ready}
use Rattle.pages.specs.Rows.{column, stands_at}
use Rattle.pages.specs.Sheets.{longest, selector_in}
use Rattle.pages.specs.Cards.{sheet_of, table_of, shape_of, layout_of, ground_of}
use Rattle.images.specs.Bytes.{stored_at}
use Rattle.curves.specs.declared.Plan.{Plan}
use Rattle.curves.specs.Planned.{full_of}
use Rattle.bodies.specs.Bodies.{body}
use Rattle.plans.specs.Plans.{planned_for}
use Rattle.scripts.specs.declared.making.Cursor.{Cursor}
use Rattle.scripts.specs.declared.making.Load.{Load}
use Rattle.scripts.specs.declared.making.Write.{Write}
use Rattle.scripts.specs.Scripts.{Pair, addressed, flat}

-- how many registers are written: the speeds raised, then all of them ..
abbrev pub registers_of : Load → ℕ
registers_of l = l.speeds + (l.settings + l.speeds)

-- .. and how many writes there are, with the selects
abbrev pub writes_of : Load → ℕ
writes_of l = l.selects + registers_of l

-- the k-th register written: which of the table's it is, with what byte
unfoldable pub place_at : Load → ℕ → ℕ
place_at l k = cond (ltb k l.speeds) (l.settings + k) (k - l.speeds)

unfoldable pub byte_at : Load → List ℕ → ℕ → ℕ
byte_at l bytes k = cond (ltb k l.speeds) l.full (get_or bytes (k - l.speeds) 0)

abbrev pub register_of : Load → ℕ → Register
register_of l k = stands_at l.stretches (place_at l k)

abbrev pub bank_of : Load → ℕ → ℕ
bank_of l k = (register_of l k).position / 256

-- between two writes: the next register's, or a select of its bank before it
abbrev pub ready_at : Load → Cursor → Bool
ready_at l c = ready l.selector.bits c.bank (register_of l c.next).position

abbrev pub stepped : Load → Cursor → Cursor
stepped l c = record { next = cond (ready_at l c) (c.next + 1) c.next; bank = bank_of l c.next }

abbrev pub write_from : Load → List ℕ → Cursor → Write
write_from l bytes c =
    cond (ready_at l c) (record { register = register_of l c.next; byte = byte_at l bytes c.next })
    (record { register = l.selector.register; byte = bank_of l c.next })

-- before the first write no bank is known to be selected
abbrev pub start : Cursor
start = record { next = 0; bank = no_bank }

-- the cursor behind n more writes
abbrev pub cursor_at : Load → Cursor → ℕ → Cursor
cursor_at l c zero = c
cursor_at l c (suc n) = cursor_at l (stepped l c) n

-- the next n writes
abbrev pub coming : Load → List ℕ → Cursor → ℕ → List Write
coming l bytes c zero = []
coming l bytes c (suc n) = write_from l bytes c ∷ coming l bytes (stepped l c) n

-- all writes of a load
abbrev pub all_writes : Load → List ℕ → List Write
all_writes l bytes = coming l bytes start (writes_of l)

-- a write's pair of position and byte
abbrev pub pair_of : Write → Pair
pair_of w = (w.register.position, w.byte)

-- the bytes of some writes as the bus carries them
abbrev pub sent : List Write → List ℕ
sent ws = flat (map addressed (map pair_of ws))

-- an image after some writes
abbrev pub made_of : List Write → List ℕ → List ℕ
made_of [] image = image
made_of (w ∷ ws) image = made_of ws (stored_at w.register.masks w.register.position w.byte image)

-- no more registers than the longest body has bytes, and as many selects as come between them, each of a bank whose number is a byte
pub record Short (l : Load) : Type 0 where
  pub registers : l.settings + l.speeds ≤ longest
  pub selects : l.selects ≤ 2 * longest
  pub turns : (n : ℕ) → n < writes_of l → (cursor_at l start n).next < registers_of l
  pub banks : (k : ℕ) → bank_of l k < 2 ^ 8

-- a plan's table of a chip ..
abbrev pub load_of : Chip → Plan → Load
load_of chip plan =
    record {
      stretches = ground_of chip plan.table;
      settings = length (table_of chip plan.table).settings;
      speeds = length (table_of chip plan.table).speeds;
      full = full_of (shape_of chip plan.table);
      selector = selector_in (sheet_of chip);
      selects = (layout_of chip plan.table).selects;
    }

-- .. and the bytes that go there, with zeros behind them
abbrev pub loaded_bytes : Chip → Plan → List ℕ
loaded_bytes chip plan = column longest (λ k. get_or (body (planned_for chip plan)) k 0)

-- the pairs of some writes at the front of a buffer, or none
pub record PutsPairs (ws : List Write) (old : List ℕ) (r : Result ℕ Refusal) (new : List ℕ) : Type 0 where
  pub answer : tells_amount r ≡ told (room_checks (2 * length ws) old) (length ws)
  pub pairs : new ≡ left (room_checks (2 * length ws) old) (sent ws ++ drop (2 * length ws) old) old
