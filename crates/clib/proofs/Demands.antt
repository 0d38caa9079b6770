-- Demand 1 holds: each contract says what it answers and what it leaves by its own list of checks. Demand 2 holds: the round trips are those of `readings`, `right_readings` and `records`, and an image that is accepted has passed the check of its identity.
-- Assumes nothing.
use Rattle.std.specs.Prelude.{Result, Option, Ok, Err, Some}
use Rattle.refusal.specs.declared.Refusal.{Refusal}
use Prim.Native.Nat.{ℕ, ◌+◌, ◌*◌, min}
use mathlib.Core.Path.{◌≡◌, refl, sym, ap, ◌∙◌}
use mathlib.Core.Bool.{Bool, true, false, cond, not}
use mathlib.Core.List.{List, [], ◌∷◌}
use lib.ListN.{length, get_or, take}
use lib.IntN.{ℤ, pos}
use borrow.Author.Tests.{not-false}
use Rattle.refusal.specs.Refusals.{number_of}
use Rattle.refusal.specs.Checks.{first, told_or, told}
use Rattle.refusal.proofs.Passed.{told_passed, told_refused, all_passed}
use Rattle.pages.specs.declared.Chip.{Chip}
use Rattle.pages.specs.declared.Layout.{Layout}
use Rattle.pages.specs.Rows.{masks_in, required_in, column, in_one_row, stands_at}
use Rattle.pages.specs.Banks.{one_bank, stands_in}
use Rattle.pages.specs.Sheets.{most_points, longest, sizes_in, missing, layout, goes_with, selector_in}
use Rattle.pages.specs.Cards.{sheet_of, banks_of, chip_of, chip_number, unknown, has_table, row_of, effects_of, is_status, layout_of, ground_of, tells_named, tells_fan}
use Rattle.pages.specs.Promises.{Names, Lays}
use Rattle.cards.proofs.Told.{names_told, lays_told}
use Rattle.pages.specs.Identity.{confirmed}
use Rattle.images.specs.Bytes.{stored_at, position, seen}
use Rattle.images.specs.Promises.{image_checks, tells_admitted}
use Rattle.images.proofs.Admission.{admits_told}
use Rattle.identities.specs.Promises.{identity_checks, Confirms}
use Rattle.readings.specs.Readings.{as_word, steps_from, voltage}
use Rattle.readings.proofs.RoundTrip.{steps_come_back, bytes_come_back_cleared}
use Rattle.right_readings.specs.Inputs.{input_voltage}
use Rattle.right_readings.proofs.RoundTrip.{right_steps_come_back, right_bytes_come_back_cleared}
use Rattle.watch.specs.declared.Watch.{Watch}
use Rattle.watch.specs.declared.Refused.{Refused}
use Rattle.watch.specs.Alarm.{fresh, taken, is_sample, acknowledged, shown, run, recorded}
use Rattle.watch.specs.Promises as watch
use Rattle.channels.specs.Promises.{channel_checks}
use Rattle.curves.specs.declared.Plan.{Plan}
use Rattle.curves.specs.Planned.{planned, asks, temperatures_in_order, speeds_in_order, full_of}
use Rattle.bodies.specs.Bodies.{body_of, decoded}
use Rattle.plans.specs.Promises.{plan_checks, Accepts}
use Rattle.plans.proofs.Laws.{accepted_plan, refused_plan}
use Rattle.records.proofs.RoundTrip.{read_written, written_read}
use Rattle.scripts.specs.Scripts.{placements, routed, script_of}
use Rattle.scripts.specs.Played.{laid}
use Rattle.clib.specs.Facts.{watch_of, facts_of}
use Rattle.clib.specs.Packed.{with_byte}
use Rattle.clib.specs.Demands.{Answered, Demand1, Demand2}
use Rattle.clib.proofs.Answered.{told_answered, left_kept, verdict_answered, count_answered, found_answered, with_buffer, never_refused, packed_answered, packed_verdict, packed_count, packed_buffer, used_answered}

-- where a number names no chip, and where a chip has no such table
named_answered : (number : ℕ) (r : Result Chip Refusal) → Names number r → Answered ((unknown number, 3) ∷ []) 0 (tells_named r)
named_answered number r p = told_answered 0 number ((unknown number, 3) ∷ []) (names_told p ∙ by_test (unknown number))
  where
    by_test : (b : Bool) → cond b (3, 0) (0, number) ≡ told ((b, 3) ∷ []) number
    by_test true = refl
    by_test false = refl

laid_answered : (chip : Chip) (number : ℕ) (r : Option Layout) → Lays chip number r
    → Answered ((not (has_table chip number), 4) ∷ []) (layout one_bank [] missing) (tells_fan r)
laid_answered chip number r p =
    told_answered (layout one_bank [] missing) (layout_of chip number) ((not (has_table chip number), 4) ∷ [])
    (lays_told p ∙ by_test (has_table chip number) (layout_of chip number))
  where
    by_test : (b : Bool) (facts : Layout) → cond b (0, facts) (4, layout one_bank [] missing) ≡ told_or (layout one_bank [] missing) ((not b, 4) ∷ []) facts
    by_test true facts = refl
    by_test false facts = refl

-- a plan that is accepted tells its chip, and any other the first check that it fails
accept_answered : (plan : Plan) (r : Result Chip Refusal) → Accepts plan r → Answered (plan_checks plan) 0 (tells_admitted r)
accept_answered plan (Ok chip) p =
    told_answered 0 (chip_number chip) (plan_checks plan) (told_passed (plan_checks plan) (chip_number chip) (accepted_plan chip p refl))
accept_answered plan (Err refusal) p =
    told_answered 0 0 (plan_checks plan) (told_refused refusal (plan_checks plan) 0 (refused_plan refusal p refl))

-- a refused sample leaves the watch as it was
sample_answered : (w : Watch) (steps high hysteresis : ℤ) (r : Result Watch Refused) → watch.Samples w steps high hysteresis r → Answered (watch.sample_checks steps) w (watch.tells_sampled r)
sample_answered w steps high hysteresis r p = told_answered w (taken w steps high hysteresis) (watch.sample_checks steps) (p.answer ∙ by_test (is_sample steps))
  where
    by_test : (b : Bool) → (first ((not b, 12) ∷ []), cond b (taken w steps high hysteresis) w) ≡ told_or w ((not b, 12) ∷ []) (taken w steps high hysteresis)
    by_test true = refl
    by_test false = refl

accepted_bits : (number : ℕ) (chip : Chip) (image : List ℕ) → chip_of number ≡ Some chip → Confirms number image (Ok tt) → confirmed chip image ≡ true
accepted_bits number chip image e c = not-false (confirmed chip image) (rw e at (all_passed (identity_checks number image) refl (sym c.answer)).1.1.0)

pub demand_1 : Demand1
demand_1 =
    record {
      number = λ refusal. record { answer = number_of refusal; kept = record { answer = refl } };
      chip_of = named_answered;
      masks_of = λ chip position. record { answer = masks_in (row_of chip position); kept = record { answer = refl } };
      effects_of = λ chip position. record { answer = effects_of chip position; kept = record { answer = refl } };
      is_status = λ chip position. record { answer = is_status chip position; kept = record { answer = refl } };
      power_on_of = λ chip position. record { answer = (row_of chip position).power; kept = record { answer = refl } };
      sizes_of = λ chip. record { answer = sizes_in (sheet_of chip); kept = record { answer = refl } };
      required_of = λ chip k. record { answer = required_in (sheet_of chip).identity k; kept = record { answer = refl } };
      table_of = laid_answered;
      layout_of = λ chip number. record { answer = layout_of chip number; kept = record { answer = refl } };
      ground_of = λ chip number. record { answer = ground_of chip number; kept = record { answer = refl } };
      selector_of = λ chip. record { answer = selector_in (sheet_of chip); kept = record { answer = refl } };
      position_of = λ chip bank address. record { answer = stands_in (banks_of chip) bank address; kept = record { answer = refl } };
      goes_with = λ layout points. record { answer = goes_with layout points; kept = record { answer = refl } };
      one_row = λ first settings speeds masks. record { answer = in_one_row first settings speeds masks; kept = record { answer = refl } };
      register_at = λ stretches k. record { answer = stands_at stretches k; kept = record { answer = refl } };
      admit = λ chip size r p. told_answered 0 chip _ (admits_told p);
      write = λ chip old address byte r new p. (verdict_answered r _ p.answer, left_kept (image_checks chip old) _ p.answer p.bytes);
      place = λ register byte old. record { answer = stored_at register.masks register.position byte old; kept = record { bytes = refl } };
      look = λ chip image address. record { answer = record { position = position chip image address; byte = seen chip address image }; kept = record { answer = refl } };
      reset = λ chip old r new p. (verdict_answered r _ p.answer, left_kept (image_checks chip old) _ p.answer p.bytes);
      confirm = λ chip image r p. verdict_answered r _ p.answer;
      steps_of = λ width high low r p. told_answered (pos 0) _ _ p.answer;
      as_word = λ number. record { answer = as_word number; kept = record { answer = refl } };
      bytes_of = λ width steps r p. told_answered (0, 0) _ _ p.answer;
      microvolts = λ word. record { answer = voltage word; kept = record { answer = refl } };
      right_steps = λ high low. record { answer = steps_from 11 1 high low; kept = record { answer = refl } };
      right_bytes = λ steps r p. told_answered (0, 0) _ _ p.answer;
      input_microvolts = λ input high low. record { answer = input_voltage input high low; kept = record { answer = refl } };
      watch_new = λ behaviour. record { answer = fresh behaviour; kept = record { answer = refl } };
      watch_sample = sample_answered;
      watch_acknowledge = λ w. record { answer = acknowledged w; kept = record { answer = refl } };
      watch_output = λ w. record { answer = shown w.behaviour w.hot w.pending; kept = record { answer = refl } };
      watch_run = λ w samples high hysteresis. record { answer = run w (recorded high hysteresis samples); kept = record { answer = refl } };
      sample_channels = λ old w steps words r new p. with_buffer w (channel_checks old steps) _ _ p.answer p.bytes;
      read = λ chip old address w r new p. with_buffer (0, w) (image_checks chip old) _ _ p.answer p.bytes;
      reset_chip = λ chip old w r new p. with_buffer w (image_checks chip old) _ _ p.answer p.bytes;
      count_of = λ points. record { answer = min points most_points; kept = record { answer = refl } };
      speed_of = λ shape plan t. record { answer = asks shape (planned shape plan) t; kept = record { answer = refl } };
      temperatures_in_order = λ shape plan. record { answer = temperatures_in_order shape plan; kept = record { answer = refl } };
      speeds_in_order = λ shape plan. record { answer = speeds_in_order shape plan; kept = record { answer = refl } };
      full_of = λ shape. record { answer = full_of shape; kept = record { answer = refl } };
      plan_of = λ leading shape chip table points bytes.
          record { answer = decoded leading shape chip table points bytes; kept = record { answer = refl } };
      body_of = λ leading shape plan. record { answer = column longest (λ k. get_or (body_of leading shape plan) k 0); kept = record { answer = refl } };
      accept = accept_answered;
      judge = λ plan r p. verdict_answered r _ p.answer;
      asked_of_plan = λ plan t r p. told_answered 0 _ _ p.answer;
      asked_of_image = λ chip table image t r p. told_answered 0 _ _ p.answer;
      plan_from = λ chip table body r p. found_answered _ _ _ r p.answer p.plan;
      read_record = λ bytes r p. found_answered _ _ _ r p.answer p.plan;
      write_record = λ plan old r new p. count_answered r _ _ _ p.answer p.bytes;
      script = λ plan old r new p. count_answered r _ _ _ p.answer p.bytes;
      make = λ chip plan count old.
          record {
            answer = (min count (length (script_of chip plan)), laid chip (take count (routed chip (placements chip plan))) old);
            kept = record { answer = refl; bytes = refl };
          };
      play = λ plan old count r new p. count_answered r _ _ _ p.answer p.bytes;
      translate = λ input old r new p. count_answered r _ _ _ p.answer p.bytes;
      yk_write = λ chip old address byte r new p. packed_verdict p.answer _ r _ refl p.kept.answer p.kept.bytes p.same;
      yk_read = λ chip old address behaviour facts r new p.
          packed_buffer with_byte (image_checks chip old) (0, watch_of behaviour facts) _ _ refl p.kept.answer p.kept.bytes p.same;
      yk_reset = λ chip old behaviour facts r new p.
          packed_buffer facts_of (image_checks chip old) (watch_of behaviour facts) _ _ refl p.kept.answer p.kept.bytes p.same;
      yk_sample_image = λ old behaviour facts steps words r new p.
          packed_buffer facts_of (channel_checks old steps) (watch_of behaviour facts) _ _ refl p.kept.answer p.kept.bytes p.same;
      yk_identity = λ chip image r p. packed_answered (λ none. 0) _ tt _ refl (verdict_answered p.answer _ p.kept.answer) p.same;
      yk_steps = λ width high low r p. packed_answered as_word _ (pos 0) _ refl (told_answered (pos 0) _ _ p.kept.answer) p.same;
      yk_bytes = λ width steps r p. packed_answered (λ b. b.0 * 256 + b.1) _ (0, 0) _ refl (told_answered (0, 0) _ _ p.kept.answer) p.same;
      yk_microvolts = λ word r p. packed_answered (λ n. n) [] 0 (0, p.answer) refl (never_refused 0 p.answer) p.same;
      yk_right_steps = λ high low r p. packed_answered (λ n. n) [] 0 (0, as_word p.answer) refl (never_refused 0 (as_word p.answer)) p.same;
      yk_right_bytes = λ steps r p. packed_answered (λ b. b.0 * 256 + b.1) _ (0, 0) _ refl (told_answered (0, 0) _ _ p.kept.answer) p.same;
      yk_input_microvolts = λ input high low r p. packed_answered (λ n. n) [] 0 (0, p.answer) refl (never_refused 0 p.answer) p.same;
      yk_sample = λ behaviour facts steps high hysteresis r p. packed_answered facts_of _ _ _ refl (sample_answered _ steps high hysteresis _ p.kept) p.same;
      yk_acknowledge = λ behaviour facts r p. packed_answered (λ n. n) [] 0 (0, facts_of p.answer) refl (never_refused 0 (facts_of p.answer)) p.same;
      yk_run = λ behaviour facts samples high hysteresis r p. packed_answered (λ n. n) [] 0 (0, facts_of p.answer) refl (never_refused 0 (facts_of p.answer)) p.same;
      yk_read_record = λ bytes r p. used_answered _ p.answer r refl (ap (λ (t : ℕ × ℕ). t.0) p.kept.answer) p.same;
      yk_write_record = λ chip table body old r new p. packed_count p.answer _ _ r _ refl p.kept.answer p.kept.bytes p.same;
      yk_asked_of_plan = λ chip table body t r p. packed_answered (λ n. n) _ 0 _ refl (told_answered 0 _ _ p.kept.answer) p.same;
      yk_asked_of_image = λ chip table image t r p. packed_answered (λ n. n) _ 0 _ refl (told_answered 0 _ _ p.kept.answer) p.same;
      yk_script = λ chip table body old r new p. packed_count p.answer _ _ r _ refl p.kept.answer p.kept.bytes p.same;
      yk_play = λ chip table body old count r new p. packed_count p.answer _ _ r _ refl p.kept.answer p.kept.bytes p.same;
      yk_translate = λ input old r new p. packed_count p.answer _ _ r _ refl p.kept.answer p.kept.bytes p.same;
    }

pub demand_2 : Demand2
demand_2 =
    record {
      steps_and_back = λ width high low n r w c. steps_come_back w c;
      bytes_and_back = λ width high low n r h l c w. bytes_come_back_cleared h l c w;
      right_steps_and_back = λ high low m n w c. right_steps_come_back w c;
      right_bytes_and_back = λ high low n r h c w. right_bytes_come_back_cleared h c w;
      record_and_back = read_written;
      plan_and_back = λ plan old n new found S w r. written_read plan old n _ new found S w refl r;
      every_bit = accepted_bits;
    }
