-- What is made of a load is the plan's script: first every speed register with the full byte, then every register with the bytes of the plan's body.
-- Assumes nothing.
use Prim.Native.Nat.{ℕ, zero, suc, ◌+◌, ◌-◌, ◌/◌, ◌^◌, ◌≤◌, ◌<◌}
use native.Mathlib.Nat.{not-suc-le-zero}
use native.Mathlib.Omega.{arith}
use mathlib.Core.Path.{◌≡◌, refl, sym, ap, ap₂, subst, ◌∙◌}
use mathlib.Core.Bool.{Bool, true, false, So, cond}
use mathlib.Core.List.{List, [], ◌∷◌, ◌++◌, map}
use borrow.Author.Tests.{ltb-true, ltb-false}
use lib.Dec.{ltb}
use lib.ListN.{length, get_or, take, length-append, length-map}
use lib.Seq.{take_all}
use Rattle.pages.specs.declared.Chip.{Chip}
use Rattle.pages.specs.declared.Masks.{Masks}
use Rattle.pages.specs.declared.Register.{Register}
use Rattle.pages.specs.Banks.{no_bank, ready, selects_from}
use Rattle.pages.specs.Rows.{every, Table, masks_in, positions, row_in, stands_at}
use Rattle.pages.specs.Sheets.{longest, missing, loaded, selector_in, register_in}
use Rattle.pages.specs.Cards.{sheet_of, card_of, banks_of, row_of, has_table, table_of, shape_of}
use Rattle.pages.proofs.Every.{both, every_append}
use Rattle.pages.proofs.Columns.{column_at}
use Rattle.pages.proofs.Selectors.{selector_bits, selector_register, selects_most}
use Rattle.pages.proofs.Sound.{stands}
use Rattle.pages.proofs.Tables.{table_short, table_none, table_stands, table_ground, register_position, register_at_is, register_bank}
use Rattle.images.specs.Bytes.{stored_at, placed}
use Rattle.curves.specs.declared.Plan.{Plan}
use Rattle.curves.specs.Orders.{fulls}
use Rattle.curves.specs.Planned.{Curve, full_of}
use Rattle.curves.specs.Values.{Sized}
use Rattle.bodies.specs.Bodies.{body}
use Rattle.plans.specs.Plans.{planned_for}
use Rattle.plans.proofs.Fits.{settings_long, speeds_long}
use Rattle.scripts.specs.declared.making.Cursor.{Cursor}
use Rattle.scripts.specs.declared.making.Load.{Load}
use Rattle.scripts.specs.declared.making.Write.{Write}
use Rattle.scripts.specs.Scripts.{Pair, writes, script, placements, routed_from, routed, addressed, bus, script_of}
use Rattle.scripts.specs.Played.{laid}
use Rattle.scripts.specs.Making.{registers_of, writes_of, place_at, byte_at, register_of, bank_of, ready_at, stepped, write_from, start, cursor_at, coming, all_writes, pair_of, made_of, Short, load_of, loaded_bytes}
use Rattle.scripts.proofs.Bus.{has_banks, Standing, standing_append}
use Rattle.scripts.proofs.Pairs.{nothing, script_length_is, script_registers, raised_at, body_at}
use Rattle.scripts.proofs.Walk.{Describes, walk_length, walk_turns, walk_pairs}

-- writes that stand in a table's registers stand where the bus reaches them
writes_stand : (chip : Chip) (ps bs : List ℕ) → So (every (stands (sheet_of chip)) ps) → Standing chip (writes ps bs)
writes_stand chip [] bs t = tt
writes_stand chip (p ∷ ps) [] t = tt
writes_stand chip (p ∷ ps) (b ∷ bs) t =
    let parts = both (stands (sheet_of chip) p) (every (stands (sheet_of chip)) ps) t in
    (parts.0, writes_stand chip ps bs parts.1)

module _ (chip : Chip) (plan : Plan) where
  abbrev load : Load
  load = load_of chip plan

  abbrev bytes : List ℕ
  bytes = loaded_bytes chip plan

  abbrev table : Table
  table = table_of chip plan.table

  abbrev s : ℕ
  s = length table.settings

  abbrev v : ℕ
  v = length table.speeds

  abbrev curve : Curve
  curve = planned_for chip plan

  abbrev pairs : List Pair
  pairs = script (full_of (shape_of chip plan.table)) table curve

  pub placements_stand : Standing chip (placements chip plan)
  unfolding placements
  placements_stand =
      let whole = every_append (stands (sheet_of chip)) table.settings table.speeds (table_stands chip plan.table) in
      let full = fulls (full_of (shape_of chip plan.table)) table.speeds in
      standing_append chip (writes table.speeds full) (writes table.settings curve.settings ++ writes table.speeds curve.speeds)
      (writes_stand chip table.speeds full whole.1)
      (standing_append chip (writes table.settings curve.settings) (writes table.speeds curve.speeds)
      (writes_stand chip table.settings curve.settings whole.0) (writes_stand chip table.speeds curve.speeds whole.1))

  -- no more registers than a body has bytes
  registers_short : s + v ≤ longest
  registers_short = omega (arith, table_short chip plan.table, length-append table.settings table.speeds)

  -- a register of the load is that of the table
  loaded_at : (k : ℕ) → stands_at load.stretches k ≡ register_in (sheet_of chip) plan.table k
  loaded_at k = ap (λ (at : ℕ → Register). at k) (table_ground chip plan.table)

  loaded_position : (k : ℕ) → (stands_at load.stretches k).position ≡ get_or (positions table) k 0
  loaded_position k = ap (λ (r : Register). r.position) (loaded_at k) ∙ register_position chip plan.table k

  -- of a table that the plan fills
  module _ (es : s ≡ length curve.settings) (ev : v ≡ length curve.speeds) where
    at_place : (k : ℕ) → k < v + (s + v) → ((register_of load k).position, byte_at load bytes k) ≡ get_or pairs k nothing
    unfolding place_at byte_at
    at_place k h = by_side (ltb k v) refl
      where
        by_side : (raised : Bool) → ltb k v ≡ raised → ((register_of load k).position, byte_at load bytes k) ≡ get_or pairs k nothing
        by_side true t =
            rw t
            (ap (λ (p : ℕ). (p, full_of (shape_of chip plan.table))) (loaded_position (s + k))
            ∙ sym (raised_at (full_of (shape_of chip plan.table)) table curve es ev k (ltb-true k v t)))
        by_side false t =
            let past : v ≤ k = ltb-false k v t in
            let j : k - v < s + v = omega arith in
            let whole : v + (k - v) ≡ k = omega arith in
            let short = registers_short in
            let byte = column_at longest (λ n. get_or (body curve) n 0) (k - v) (omega arith) in
            rw t
            (ap₂ (λ (p b : ℕ). (p, b)) (loaded_position (k - v)) byte
            ∙ sym (body_at (full_of (shape_of chip plan.table)) table curve es ev (k - v) j)
            ∙ ap (λ (n : ℕ). get_or pairs n nothing) whole)

    filled : Describes load bytes (banks_of chip) pairs
    filled =
        let long = script_length_is (full_of (shape_of chip plan.table)) table curve es ev in
        record {
          registers = sym long;
          places = λ k h. at_place k (subst (λ (n : ℕ). k < n) long h);
          selects = ap (selects_from (banks_of chip) no_bank) (sym (script_registers (full_of (shape_of chip plan.table)) table curve es ev));
          bits = selector_bits (sheet_of chip);
          select = λ some. ap (λ (r : Register). r.position) (selector_register (sheet_of chip) some);
        }

  -- and of one that the chip does not have: no write
  empty : table ≡ missing → Describes load bytes (banks_of chip) pairs
  empty e =
      record {
        registers = rw e;
        places = λ k h. absurd (not-suc-le-zero (rw e at h));
        selects = rw e;
        bits = selector_bits (sheet_of chip);
        select = λ some. ap (λ (r : Register). r.position) (selector_register (sheet_of chip) some);
      }

  load_describes : Sized plan → Describes load bytes (banks_of chip) (placements chip plan)
  unfolding placements
  load_describes sized = by_table (has_table chip plan.table) refl
    where
      by_table : (has : Bool) → has_table chip plan.table ≡ has → Describes load bytes (banks_of chip) pairs
      by_table true t = filled (settings_long chip plan sized t) (speeds_long chip plan sized t)
      by_table false t = empty (table_none chip plan.table t)

  -- a place is one of the table's registers
  inside : (k : ℕ) → k < registers_of load → place_at load k < length (positions table)
  unfolding place_at
  inside k h = by_side (ltb k v) refl
    where
      long : length (positions table) ≡ s + v
      long = length-append table.settings table.speeds

      by_side : (raised : Bool) → ltb k v ≡ raised → place_at load k < length (positions table)
      by_side true t = rw t (omega (arith, ltb-true k v t, long))
      by_side false t = rw t (omega (arith, ltb-false k v t, long))

  module _ (sized : Sized plan) where
    places : Describes load bytes (banks_of chip) (placements chip plan)
    places = load_describes sized

    -- each turn of a load writes a register of the table, or selects its bank
    pub load_short : Short (load_of chip plan)
    load_short =
        record {
          registers = registers_short;
          selects = omega (
            arith,
            registers_short,
            selects_most (banks_of chip) no_bank (loaded table),
            length-append table.speeds (table.settings ++ table.speeds),
            length-append table.settings table.speeds,
          );
          turns = walk_turns load bytes (banks_of chip) (placements chip plan) places;
          banks = λ k. subst (λ (r : Register). r.position / 256 < 2 ^ 8) (sym (loaded_at (place_at load k))) (register_bank chip plan.table (place_at load k));
        }

    pub load_writes : writes_of load ≡ length (script_of chip plan)
    unfolding bus routed
    load_writes =
        walk_length load bytes (banks_of chip) (placements chip plan) places
        ∙ sym (length-map (routed_from (banks_of chip) no_bank (placements chip plan)) addressed)

    -- its first writes are the first of the script
    pub load_pairs : (n : ℕ) → n ≤ writes_of load → map pair_of (coming load bytes start n) ≡ take n (routed chip (placements chip plan))
    unfolding routed
    load_pairs = walk_pairs load bytes (banks_of chip) (placements chip plan) places

    -- and so all of them on the bus
    pub load_script : map addressed (map pair_of (all_writes load bytes)) ≡ script_of chip plan
    unfolding bus routed
    load_script =
        ap (map addressed)
        (load_pairs (writes_of load) (omega arith)
        ∙ take_all (writes_of load) (routed_from (banks_of chip) no_bank (placements chip plan))
        (omega (arith, walk_length load bytes (banks_of chip) (placements chip plan) places)))

    -- each write goes by the masks of its position
    masked : (c : Cursor) → c.next < registers_of load → (write_from load bytes c).register.masks ≡ masks_in (row_of chip (write_from load bytes c).register.position)
    unfolding row_of
    masked c h = by_ready (ready_at load c) refl
      where
        k : ℕ
        k = c.next

        register : Bool → Register
        register r =
            (cond {A = Write} r (record { register = register_of load c.next; byte = byte_at load bytes c.next })
            (record { register = (selector_in (sheet_of chip)).register; byte = bank_of load c.next })).register

        by_ready : (r : Bool) → ready_at load c ≡ r → (register r).masks ≡ masks_in (row_in (card_of chip) (register r).position)
        by_ready true t =
            let at = loaded_at (place_at load k) ∙ register_at_is chip plan.table (place_at load k) (inside k h) in
            ap (λ (r : Register). r.masks) at ∙ sym (ap (λ (r : Register). masks_in (row_in (card_of chip) r.position)) at)
        by_ready false t =
            let same = ap (λ (bits : ℕ). ready bits c.bank (register_of load k).position) (selector_bits (sheet_of chip)) in
            let at = selector_register (sheet_of chip) (has_banks (banks_of chip).bits c.bank (register_of load k).position (sym same ∙ t)) in
            ap (λ (r : Register). r.masks) at ∙ sym (ap (λ (r : Register). masks_in (row_in (card_of chip) r.position)) at)

    -- so what is made on an image is what the writes by position do
    made_laid : (c : Cursor) (n : ℕ) → ((j : ℕ) → j < n → (cursor_at load c j).next < registers_of load) → (image : List ℕ)
        → made_of (coming load bytes c n) image ≡ laid chip (map pair_of (coming load bytes c n)) image
    made_laid c zero h image = refl
    made_laid c (suc n) h image =
        let w = write_from load bytes c in
        ap (λ (m : Masks). made_of (coming load bytes (stepped load c) n) (stored_at m w.register.position w.byte image)) (masked c (h 0 (omega arith)))
        ∙ made_laid (stepped load c) n (λ j less. h (suc j) (omega (arith, less))) (placed chip w.register.position w.byte image)

    pub load_makes : (n : ℕ) → n ≤ writes_of load → (image : List ℕ)
        → made_of (coming load bytes start n) image ≡ laid chip (take n (routed chip (placements chip plan))) image
    load_makes n h image =
        made_laid start n (λ j less. load_short.turns j (omega (arith, less, h))) image
        ∙ ap (λ (ws : List Pair). laid chip ws image) (load_pairs n h)
