-- One block that is taken, its row written where there is room. Assumes nothing.
use Rattle.std.specs.Prelude.{Result, Ok, Err}
use Rattle.answers.specs.declared.Unwritten.{Unwritten}
use mathlib.Core.Path.{◌≡◌, refl, ap, ◌∙◌, subst, subst⁻¹}
use mathlib.Core.Bool.{Bool, true, false, cond}
use mathlib.Core.List.{List, ◌++◌}
use Prim.Native.Nat.{ℕ, ◌-◌, min}
use native.Mathlib.Omega.{arith}
use borrow.Author.Tests.{ltb-true}
use borrow.Rule.Slice.PartMut.{put_mid, put_same}
use lib.Dec.{ltb}
use lib.ListN.{length, drop}
use lib.Seq.{sets}
use Rattle.answers.specs.Writers.{written, stored}
use Rattle.answers.specs.declared.Refusal.{Refusal}
use Rattle.answers.proofs.Stores.{wrote_refused}
use Rattle.walk.specs.Steps.{Next, goes, refuses, state_after, Stepped}
use Rattle.walk.specs.Puts.{WasRefused}
use Rattle.walk.proofs.Putting.{part, part_long, part_front}
use Rattle.convert.specs.declared.Run.{Run}
use Rattle.convert.specs.Passes.{Forwarded, WasMoved}

-- ---- one block

after_same : (next : Run) (w : Result ℕ Unwritten) → state_after next (goes next) w ≡ next
after_same next (Ok n) = refl
after_same next (Err (Unwritten.Room n)) = refl
after_same next (Err (Unwritten.Refused refusal)) = refl

pub forwarded_goes : (given : Run) {next : Run} {bytes old : List ℕ} {answer : Result ℕ Unwritten} {state : Run} {out : List ℕ}
    → Stepped next (goes next) bytes old answer state out → Forwarded given (goes next) bytes old answer state out
forwarded_goes given {next} {bytes} {old} {answer} s = record { wrote = s.wrote; after = s.after ∙ after_same next answer }

pub forwarded_refuses : (given : Run) {next : Next Run} {refusal : Refusal} (bytes old : List ℕ) {answer : Result ℕ Unwritten} {state : Run}
    → next ≡ refuses refusal → answer ≡ Err (Unwritten.Refused refusal) → state ≡ given → Forwarded given next bytes old answer state old
forwarded_refuses given {next} {refusal} bytes old e a s = rw (e, a) (record { wrote = wrote_refused bytes old refl; after = s })

-- by the writer's answer
abbrev pub MovedAs : Next Run → List ℕ → List ℕ → ℕ → List ℕ → Run → Result ℕ Unwritten → Type 0
MovedAs next bytes old at out state (Ok n) = WasMoved next bytes old at n state out
MovedAs next bytes old at out state (Err (Unwritten.Room n)) = WasMoved next bytes old at n state out
MovedAs next bytes old at out state (Err (Unwritten.Refused refusal)) = WasRefused next refusal old out

-- on the part of an output from a place on, or from its end on where the place is past it
module _ (given : Run) (bytes old : List ℕ) (at from : ℕ) (is : from ≡ min at (length old)) where
  by_room : (state : Run) (answer : Result ℕ Unwritten) (ys : List ℕ) (small : Bool) → ltb (length (part old from)) (length bytes) ≡ small
      → answer ≡ cond small (Err (Unwritten.Room (length bytes))) (Ok (length bytes)) → ys ≡ cond small (part old from) (bytes ++ drop (length bytes) (part old from))
      → MovedAs (goes state) bytes old at (put_mid from (length old - from) old ys) state answer
  by_room state answer ys true t a s =
      subst⁻¹ (MovedAs (goes state) bytes old at (put_mid from (length old - from) old ys) state) a
      (record {
        does = refl;
        long = refl;
        stores = λ h. absurd (omega (arith, ltb-true (length (part old from)) (length bytes) t, part_long old from));
      })
  by_room state answer ys false t a s =
      subst⁻¹ (MovedAs (goes state) bytes old at (put_mid from (length old - from) old ys) state) a
      (record {
        does = refl;
        long = refl;
        stores = λ h.
            let here : from ≡ at = omega arith in
            part_front old from bytes ys (omega arith) s ∙ ap (λ (i : ℕ). sets old i bytes) here;
      })

  pub moved_of : (next : Next Run) (state : Run) (answer : Result ℕ Unwritten) (ys : List ℕ) → Forwarded given next bytes (part old from) answer state ys
      → MovedAs next bytes old at (put_mid from (length old - from) old ys) state answer
  unfolding written stored
  moved_of (refuses refusal) state answer ys f =
      subst⁻¹ (MovedAs (refuses refusal) bytes old at (put_mid from (length old - from) old ys) state) f.wrote.answers
      (record { does = refl; stores = ap (put_mid from (length old - from) old) f.wrote.stores ∙ put_same from (length old - from) old })
  moved_of (goes next) state answer ys f =
      subst (λ (r : Run). MovedAs (goes r) bytes old at (put_mid from (length old - from) old ys) state answer) f.after
      (by_room state answer ys (ltb (length (part old from)) (length bytes)) refl f.wrote.answers f.wrote.stores)
