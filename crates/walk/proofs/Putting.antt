-- What a call for one block writes from a place of a lent output on. Assumes nothing.
use Rattle.std.specs.Prelude.{None, Result, Ok, Err}
use Rattle.answers.specs.declared.Unwritten.{Unwritten}
use mathlib.Core.Path.{◌≡◌, refl, sym, ap, ◌∙◌, subst⁻¹}
use mathlib.Core.Bool.{Bool, true, false, cond}
use mathlib.Core.List.{List, [], ◌++◌, append-nil, append_assoc}
use Prim.Native.Nat.{ℕ, ◌+◌, ◌-◌, ◌≤◌}
use native.Mathlib.Omega.{arith}
use borrow.Author.Tests.{ltb-true, ltb-false}
use borrow.Rule.Slice.PartMut.{mid_of, post_of, put_mid, put_same}
use lib.Dec.{ltb}
use lib.ListN.{length, take, drop, length-drop, drop_of_length-le}
use lib.Seq.{sets, sets-eq, take_all, drop-drop}
use Rattle.answers.specs.Writers.{written, stored}
use Rattle.answers.specs.declared.Refusal.{Refusal}
use Rattle.answers.proofs.Stores.{wrote_refused, room_is_exact}
use Rattle.walk.specs.Steps.{Next, goes, refuses, state_after, Stepped, StepRoomIsExact}
use Rattle.walk.specs.Puts.{PutBy}

-- ---- the part of an output from a place on

module _ (xs : List ℕ) (at : ℕ) where
  abbrev pub part : List ℕ
  part = mid_of at (length xs - at) xs

  pub part_is : part ≡ drop at xs
  part_is = take_all (length xs - at) (drop at xs) (rw (length-drop at xs) (omega arith))

  pub part_long : length part ≡ length xs - at
  part_long = ap length part_is ∙ length-drop at xs

  -- what is written at its front is written at that place
  pub part_front : (vs ys : List ℕ) → at + length vs ≤ length xs → ys ≡ vs ++ drop (length vs) part → put_mid at (length xs - at) xs ys ≡ sets xs at vs
  part_front vs ys room e =
      let end : post_of at (length xs - at) xs ≡ [] = drop_of_length-le (drop at xs) {i = length xs - at} (rw (length-drop at xs) (omega arith)) in
      let whole : ys ≡ vs ++ drop (at + length vs) xs =
      e ∙ ap (λ (l : List ℕ). vs ++ drop (length vs) l) part_is ∙ ap (λ (l : List ℕ). vs ++ l) (drop-drop (length vs) at xs) in
      ap (λ (l : List ℕ). take at xs ++ (ys ++ l)) end
      ∙ ap (λ (l : List ℕ). take at xs ++ l) (append-nil ys ∙ whole)
      ∙ sym (append_assoc (take at xs) vs (drop (at + length vs) xs))
      ∙ sym (sets-eq vs xs at room)

-- ---- the call on that part

module _ {A : Type 0} (given : A) (bytes old : List ℕ) (at : ℕ) (inside : at ≤ length old) where
  by_room : (next state : A) (answer : Result ℕ Unwritten) (ys : List ℕ) (small : Bool) → ltb (length (part old at)) (length bytes) ≡ small
      → answer ≡ cond small (Err (Unwritten.Room (length bytes))) (Ok (length bytes)) → ys ≡ cond small (part old at) (bytes ++ drop (length bytes) (part old at))
      → state ≡ state_after given (goes next) answer
      → PutBy (goes next) bytes old at state (put_mid at (length old - at) old ys) answer
  by_room next state answer ys true t a s k =
      let less = ltb-true (length (part old at)) (length bytes) t in
      subst⁻¹ (PutBy (goes next) bytes old at state (put_mid at (length old - at) old ys)) a
      (record { brings = next; does = refl; room = omega (arith, less, part_long old at); stores = ap (put_mid at (length old - at) old) s ∙ put_same at (length old - at) old })
  by_room next state answer ys false t a s k =
      let more = ltb-false (length (part old at)) (length bytes) t in
      let room : at + length bytes ≤ length old = omega (arith, more, part_long old at) in
      subst⁻¹ (PutBy (goes next) bytes old at state (put_mid at (length old - at) old ys)) a
      (record { does = ap goes (sym (k ∙ ap (state_after given (goes next)) a)); long = refl; room = room; stores = part_front old at bytes ys room s })

  pub put_of : (next : Next A) (state : A) (answer : Result ℕ Unwritten) (ys : List ℕ) → Stepped given next bytes (part old at) answer state ys
      → PutBy next bytes old at state (put_mid at (length old - at) old ys) answer
  unfolding written stored
  put_of (refuses refusal) state answer ys s =
      subst⁻¹ (PutBy (refuses refusal) bytes old at state (put_mid at (length old - at) old ys)) s.wrote.answers
      (record { does = refl; stores = ap (put_mid at (length old - at) old) s.wrote.stores ∙ put_same at (length old - at) old })
  put_of (goes next) state answer ys s = by_room next state answer ys (ltb (length (part old at)) (length bytes)) refl s.wrote.answers s.wrote.stores s.after

-- ---- a block that is refused

pub step_refuses : {A : Type 0} (given : A) {next : Next A} {refusal : Refusal} (bytes old : List ℕ) {answer : Result ℕ Unwritten} {state : A}
    → next ≡ refuses refusal → answer ≡ Err (Unwritten.Refused refusal) → state ≡ given → Stepped given next bytes old answer state old
step_refuses given {next} {refusal} bytes old {answer} {state} e a s = rw (e, a) (record { wrote = wrote_refused bytes old refl; after = s })

-- ---- 12 says how much room is missing

pub step_room_is_exact : StepRoomIsExact
unfolding written
step_room_is_exact A given (goes next) bytes old n e = record { brings = next; does = refl; room = room_is_exact None bytes old n e }
step_room_is_exact A given (refuses refusal) bytes old n e = let z : ◌≡◌ {A = ℕ} 0 1 = cc in absurd (omega arith)

-- ---- a block that has no room, or is refused by its writer, leaves the state that was given

pub after_unwritten : {A : Type 0} (given next : A) (why : Unwritten) → state_after given (goes next) (Err why) ≡ given
after_unwritten given next why = refl
