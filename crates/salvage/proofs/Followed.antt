-- The calls over a trace follow the program ecnsalvage. Assumes nothing.
use Rattle.std.specs.Prelude.{Option, Some, None, Result, Ok, Err}
use Rattle.answers.specs.declared.Unwritten.{Unwritten}
use mathlib.Core.Path.{◌≡◌, refl, sym, ap, ◌∙◌, subst, subst⁻¹}
use mathlib.Core.List.{List, []}
use Prim.Native.Nat.{ℕ, ◌+◌, ◌*◌, ◌^◌, ◌≤◌, ◌<◌}
use native.Mathlib.Omega.{arith}
use borrow.Author.Tests.{le-ltb}
use lib.ListN.{length, take, drop, replicate, length-drop}
use lib.Seq.{take_all}
use Rattle.answers.specs.Refusals.{number_of}
use Rattle.answers.specs.Writers.{written}
use Rattle.answers.specs.declared.Refusal.{Refusal}
use Rattle.format.specs.Blocks.{block_bytes}
use Rattle.table.specs.Lines.{refused_line}
use Rattle.trace.specs.Places.{zeroth_of}
use Rattle.trace.specs.declared.Zeroth.{Zeroth}
use Rattle.walk.specs.Blocks.{joined}
use Rattle.walk.specs.Programs.{nothing, to_output, Ending}
use Rattle.walk.specs.Pieces.{wholes, whole_in}
use Rattle.walk.specs.Fitting.{Took, front}
use Rattle.walk.specs.Endings.{is_going}
use Rattle.walk.specs.Machines.{Standing, begun_by, took_by, ending_by, goes_on, Gives, Follows}
use Rattle.walk.proofs.Pieces.{whole_many, whole_long, wholes_fit}
use Rattle.walk.proofs.Standing.{number_small}
use Rattle.walk.proofs.Sessions.{session_prints}
use Rattle.copies.specs.Fronts.{Sound, sound_in}
use Rattle.copies.specs.Theorems.{NextHas}
use Rattle.copies.proofs.Fronts.{front_is_sound}
use Rattle.copies.proofs.Copied.{label_long, first_bytes}
use Rattle.salvage.specs.declared.Progress.{Progress}
use Rattle.salvage.specs.Salvaged.{Kept, begun_by as turn_by, closing, ecnsalvage, salvaged}
use Rattle.salvage.specs.Pieces.{begun_by as answer_by, begun_of, Portion, portion_by, portion_in, portion_of, TakenBy, end_of, gave_by, gave_of, calls, TracePrints}
use Rattle.salvage.proofs.Turns.{turn_part, took_sound, took_listed}

-- how the program's run stands
abbrev standing : Progress → Standing Kept
standing p = record { state = record { form = p.form; ssrc = p.ssrc }; block = p.block; refusal = p.ended }

abbrev StandsFor : Progress → Standing Kept → Type 0
StandsFor p s = standing p ≡ s

-- ---- block 0

begins : (b : List ℕ) → StandsFor (calls.begin b).state (begun_by (ecnsalvage.begin b)) × ((calls.begin b).printed ≡ (ecnsalvage.begin b).printed)
unfolding begun_of
begins b = go (zeroth_of b) refl
  where
    go : (r : Result Zeroth Refusal) → zeroth_of b ≡ r
        → StandsFor (answer_by r).progress (begun_by (turn_by b r)) × (to_output (take (answer_by r).copied b) ≡ (turn_by b r).printed)
    go (Ok label) e = (refl, ap to_output (take_all block_bytes b (omega (arith, label_long b e))))
    go (Err refusal) e = (refl, refl)

-- ---- a piece

-- what is given, by whether the line was written
module _ (p : Progress) (piece : List ℕ) (few : p.block + wholes piece < 2 ^ 64) where
  abbrev here : Standing Kept
  here = standing p

  abbrev sound : Sound
  sound = sound_in p.form p.ssrc (whole_in piece)

  abbrev Given : Portion → Option Refusal → Result ℕ Unwritten → ℕ → Type 0
  Given q o w most = Gives StandsFor here (took_by ecnsalvage here o piece most) (gave_by q piece (TakenBy p q w))

  -- nothing
  given_none : (o : Option Refusal) → p.ended ≡ o
      → Gives StandsFor here (took_by ecnsalvage here o piece 0) (record { state = p; taken = 0; printed = nothing })
  unfolding front
  given_none None e =
      let same : p.block ≡ p.block + 0 = omega arith in
      record { stands = λ i. record { state = here.state; block = same i; refusal = e i }; taken = refl; printed = refl }
  given_none (Some refusal) e =
      let same : p.block ≡ p.block + 0 = omega arith in
      record { stands = λ i. record { state = here.state; block = same i; refusal = e i }; taken = refl; printed = refl }

  -- so many blocks, if the program takes them too
  given_all : (q : Portion) {w : Took Kept} (n : ℕ) → p.ended ≡ None
      → w ≡ record { state = here.state; taken = q.taken; printed = record { out = take (q.copied * block_bytes) piece; err = q.line }; refusal = None }
      → q.taken ≤ wholes piece → Gives StandsFor here w (gave_by q piece (TakenBy p q (Ok n)))
  given_all q n going e inside =
      let number = number_small p.block q.taken (omega (arith, few, inside)) in
      let bytes : q.taken * block_bytes ≡ block_bytes * q.taken = omega arith in
      rw e (record { stands = λ i. record { state = here.state; block = number i; refusal = going i }; taken = bytes; printed = refl })

  -- what is copied, in bytes
  copied_bytes : take (sound.many * block_bytes) piece ≡ joined (take sound.many (whole_in piece))
  copied_bytes =
      let e : sound.many * block_bytes ≡ block_bytes * sound.many = omega arith in
      let inside : block_bytes * sound.many ≤ length piece = omega (arith, (front_is_sound p.form p.ssrc (whole_in piece)).inside, whole_many piece, wholes_fit piece) in
      ap (λ (n : ℕ). take n piece) e ∙ sym (first_bytes sound.many piece inside)

  given_going : (o : Option Refusal) (w : Result ℕ Unwritten) → p.ended ≡ None → sound.refusal ≡ o → (most : ℕ) × Given (portion_by p.block sound.many o) None w most
  given_going None (Ok n) going r =
      let same = sym copied_bytes in (
        sound.many,
        given_all (portion_by p.block sound.many None) n going
            (took_sound p.block here.state (whole_in piece) ∙ (λ i. record { state = here.state; taken = sound.many; printed = to_output (same i); refusal = None }))
            (omega (arith, (front_is_sound p.form p.ssrc (whole_in piece)).inside, whole_many piece)),
      )
  given_going (Some refusal) (Ok n) going r =
      let same = sym copied_bytes in
      let f = front_is_sound p.form p.ssrc (whole_in piece) in
      let next = subst (λ (o : Option Refusal). NextHas p.form p.ssrc o (drop sound.many (whole_in piece))) r f.next in
      let some_left : 1 ≤ length (drop sound.many (whole_in piece)) = subst⁻¹ (λ (bs : List (List ℕ)). 1 ≤ length bs) next.2 (omega arith) in
      let inside : sound.many + 1 ≤ wholes piece = omega (arith, some_left, length-drop sound.many (whole_in piece), whole_many piece) in
      let number = sym (number_small p.block sound.many (omega (arith, few, inside))) in (
        sound.many + 1,
        given_all (portion_by p.block sound.many (Some refusal)) n going
            (took_listed p.block here.state (whole_in piece) (whole_long piece) r
            ∙ (λ i. record {
              state = here.state;
              taken = sound.many + 1;
              printed = record { out = same i; err = refused_line (number_of refusal) (number i) };
              refusal = None;
            })) inside,
      )
  given_going o (Err why) going r = (0, given_none None going)

  -- a line of no bytes has room
  no_line_lem : (room : ℕ) → written None [] (replicate room 0) ≡ Ok 0
  unfolding written
  no_line_lem room = rw (le-ltb (length {A = ℕ} (replicate room 0)) 0 (omega arith))

  given_by : (e : Option Refusal) (room : ℕ) → p.ended ≡ e
      → (most : ℕ) × Gives StandsFor here (took_by ecnsalvage here e piece most) (gave_of p piece (portion_in p sound e) room)
  given_by None room e =
      given_going sound.refusal (written None (portion_by p.block sound.many sound.refusal).line (replicate room 0)) e refl
  given_by (Some refusal) room e =
      let q : Portion = record { copied = 0; taken = 0; line = [] } in
      let number = number_small p.block 0 (omega (arith, few)) in (
        0,
        rw (no_line_lem room)
            (record { stands = λ i. record { state = here.state; block = number i; refusal = e i }; taken = refl; printed = refl }),
      )

  given : (room : ℕ) → (most : ℕ) × Gives StandsFor here (took_by ecnsalvage here here.refusal piece most) (calls.blocks p piece room)
  unfolding portion_of
  given room = given_by p.ended room refl

-- ---- the calls

going_by : (e : Option Refusal) → is_going e ≡ goes_on e
going_by None = refl
going_by (Some refusal) = refl

closing_quiet : (o : Option Ending) → record { out = []; err = (closing o).err } ≡ closing o
closing_quiet None = refl
closing_quiet (Some e) = refl

ends_as : (p : Progress) (rest : List ℕ) → calls.end p rest ≡ ecnsalvage.close (standing p).state (ending_by p.block p.ended rest)
unfolding end_of
ends_as p rest = closing_quiet (ending_by p.block p.ended rest)

pub follows : Follows calls ecnsalvage
follows = record {
  Stands = StandsFor;
  going = λ p s st. going_by p.ended ∙ ap (λ (s : Standing Kept). goes_on s.refusal) st;
  begins = λ b o. begins b;
  takes = λ p s piece room st o few.
      subst (λ (s : Standing Kept). (most : ℕ) × Gives StandsFor s (took_by ecnsalvage s s.refusal piece most) (calls.blocks p piece room)) st
      (given p piece (omega (arith, few, ap (λ (s : Standing Kept). s.block) st)) room);
  ends = λ p s rest st. ends_as p rest ∙ ap (λ (s : Standing Kept). ecnsalvage.close s.state (ending_by s.block s.refusal rest)) st;
  parts = λ i s b more less. turn_part i s b (λ e. omega (arith, e, less));
}

pub trace_prints : TracePrints
unfolding salvaged
trace_prints trace q o few session = session_prints Progress Kept calls ecnsalvage trace q follows o few session
