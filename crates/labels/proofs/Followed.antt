-- The calls over a trace follow the program ecnlabel. Assumes nothing.
use Rattle.std.specs.Prelude.{Option, Some, None, Result, Ok, Err}
use Rattle.answers.specs.declared.Refusal.{Refusal}
use mathlib.Core.Path.{◌≡◌, refl, sym, ap, ◌∙◌, subst}
use mathlib.Core.List.{List, []}
use Prim.Native.Nat.{ℕ, ◌+◌, ◌^◌, ◌≤◌, ◌<◌}
use native.Mathlib.Omega.{arith}
use Rattle.trace.specs.Places.{zeroth_of}
use Rattle.trace.specs.Rewriting.{replaced_in}
use Rattle.trace.specs.declared.Zeroth.{Zeroth}
use Rattle.trace.proofs.Placed.{later_short}
use Rattle.walk.specs.Programs.{to_output, Ending}
use Rattle.walk.specs.Pieces.{wholes, whole_in}
use Rattle.walk.specs.Endings.{is_going}
use Rattle.walk.specs.Machines.{Standing, begun_by, took_by, ending_by, goes_on, Gives, Follows}
use Rattle.walk.proofs.Pieces.{whole_many, wholes_fit}
use Rattle.walk.proofs.Standing.{number_small}
use Rattle.walk.proofs.Sessions.{session_prints}
use Rattle.copies.specs.Fronts.{Sound, sound_in}
use Rattle.copies.proofs.Fronts.{fault_by_lem, front_is_sound}
use Rattle.copies.proofs.Copied.{first_bytes}
use Rattle.labels.specs.declared.Progress.{Progress}
use Rattle.labels.specs.Labelled.{Kept, begun_by as turnedBy, closing, ecnlabel, labelled}
use Rattle.labels.specs.Pieces.{started_by, started_of, TakenBy, taken_of, kept_of, end_of, gave_by, calls, TracePrints}
use Rattle.labels.proofs.Turns.{turn_by_lem, asked, took_front}

-- how the program's run stands
abbrev standing : Progress → Standing Kept
standing p = record { state = kept_of p; block = p.block; refusal = p.ended }

abbrev StandsFor : Progress → Standing Kept → Type 0
StandsFor p s = standing p ≡ s

-- ---- block 0

begins : (b : List ℕ) → StandsFor (calls.begin b).state (begun_by (ecnlabel.begin b)) × ((calls.begin b).printed ≡ (ecnlabel.begin b).printed)
unfolding started_of
begins b = go (zeroth_of b)
  where
    go : (r : Result Zeroth Refusal) → StandsFor (started_by r (replaced_in b r)) (begun_by (turnedBy b r)) × (to_output (turnedBy b r).printed.out ≡ (turnedBy b r).printed)
    go (Ok label) = (refl, refl)
    go (Err refusal) = (refl, refl)

-- ---- a piece

module _ (p : Progress) (piece : List ℕ) (few : p.block + wholes piece < 2 ^ 64) where
  abbrev here : Standing Kept
  here = standing p

  abbrev sound : Sound
  sound = sound_in p.form p.ssrc (whole_in piece)

  inside : sound.many ≤ wholes piece
  inside = omega (arith, (front_is_sound p.form p.ssrc (whole_in piece)).inside, whole_many piece)

  given_by : (e : Option Refusal) → p.ended ≡ e → (most : ℕ) × Gives StandsFor here (took_by ecnlabel here e piece most) (gave_by piece (TakenBy p sound e))
  given_by None e =
      let number = number_small p.block sound.many (omega (arith, few, inside)) in
      let same = first_bytes sound.many piece (omega (arith, inside, wholes_fit piece)) in
      let k = kept_of p in (
        sound.many + asked p.block k (whole_in piece) sound.refusal,
        rw (took_front p.block k (whole_in piece))
            (record {
              stands = λ i. record { state = k; block = number i; refusal = sound.refusal };
              taken = refl;
              printed = ap to_output (sym same);
            }),
      )
  given_by (Some refusal) e =
      let number : p.block ≡ p.block + 0 = omega arith in
      (0, record { stands = λ i. record { state = here.state; block = number i; refusal = (e i) }; taken = refl; printed = refl })

  given : (room : ℕ) → (most : ℕ) × Gives StandsFor here (took_by ecnlabel here here.refusal piece most) (calls.blocks p piece room)
  unfolding taken_of
  given room = given_by p.ended refl

-- ---- the calls

going_by : (e : Option Refusal) → is_going e ≡ goes_on e
going_by None = refl
going_by (Some refusal) = refl

closing_quiet : (k : Kept) (o : Option Ending) → record { out = []; err = (closing k o).err } ≡ closing k o
closing_quiet k None = refl
closing_quiet k (Some e) = refl

ends_as : (p : Progress) (rest : List ℕ) → calls.end p rest ≡ ecnlabel.close (standing p).state (ending_by p.block p.ended rest)
unfolding end_of
ends_as p rest = closing_quiet (kept_of p) (ending_by p.block p.ended rest)

pub follows : Follows calls ecnlabel
follows = record {
  Stands = StandsFor;
  going = λ p s st. going_by p.ended ∙ ap (λ (s : Standing Kept). goes_on s.refusal) st;
  begins = λ b o. begins b;
  takes = λ p s piece room st o few.
      subst (λ (s : Standing Kept). (most : ℕ) × Gives StandsFor s (took_by ecnlabel s s.refusal piece most) (calls.blocks p piece room)) st
      (given p piece (omega (arith, few, ap (λ (s : Standing Kept). s.block) st)) room);
  ends = λ p s rest st. ends_as p rest ∙ ap (λ (s : Standing Kept). ecnlabel.close s.state (ending_by s.block s.refusal rest)) st;
  parts = λ i s b more less. turn_by_lem i s b (fault_by_lem s.form s.ssrc b (later_short s.form s.ssrc b (λ e. omega (arith, e, less))));
}

pub trace_prints : TracePrints
unfolding labelled
trace_prints trace q o few session = session_prints Progress Kept calls ecnlabel trace q follows o few session
