-- The record after a list of calls is the count over its arrivals. Assumes nothing.
use mathlib.Core.Path.{◌≡◌, refl, sym, ap, ◌∙◌, subst}
use mathlib.Core.Bool.{Bool, true, false, cond}
use mathlib.Core.List.{List, [], ◌∷◌, reverse, reverse_aux}
use Prim.Native.Nat.{◌+◌, ◌^◌, ◌≤◌}
use native.Mathlib.Omega.{arith}
use borrow.Author.Tests.{leb-true, leb-false}
use lib.Dec.{leb}
use lib.IntN.{ℤ, pos, ◌+ℤ◌, ◌-ℤ◌}
use lib.ListN.{length}
use lib.Signed.{◌≤ℤ◌}
use Rattle.answers.specs.declared.Refusal.TheVariants.{Limits}
use Rattle.numbers.proofs.Integers.{modulo_lt}
use Rattle.source.specs.declared.Source.{Source}
use Rattle.source.specs.declared.Arrival.TheVariants.{Accepted, Refused}
use Rattle.source.specs.Record.{fresh_record, sound}
use Rattle.source.specs.Arrivals.{after}
use Rattle.source.proofs.Answers.{arrival_mark}
use Rattle.source.proofs.Kept.{sound_stays}
use Rattle.demands.specs.Calls.{TruePacket, wire_of, call, run_from, AnsweredFrom, arrivals, SteadyAfter, Steady}
use Rattle.demands.specs.Count.{greatest, base_of, count_from, count}
use Rattle.demands.proofs.Numbers.{max_z_comm, Near, near}
use Rattle.demands.proofs.Members.{Marks}
use Rattle.demands.proofs.Steady.{Known, known_first, known_next, count_sound}
use Rattle.demands.proofs.Steps.{count_none, call_first, call_later}
use Rattle.source.proofs.Facts.{fresh_sound}
use Rattle.demands.proofs.Order.{perm_count, perm_reverse}

-- the arrivals' marks
pub arrivals_marks : (cs : List TruePacket) → Marks (arrivals cs)
arrivals_marks [] = tt
arrivals_marks (c ∷ cs) = go (leb c.mark 3) refl (arrivals_marks cs)
  where
    go : (b : Bool) → leb c.mark 3 ≡ b → Marks (arrivals cs) → Marks (cond b (c ∷ arrivals cs) (arrivals cs))
    go true e m = (leb-true c.mark 3 e, m)
    go false e m = m

-- a sound record stays sound over any calls
pub run_sound : (s : Source) (cs : List TruePacket) → sound s ≡ true → sound (run_from s cs) ≡ true
run_sound s [] e = e
run_sound s (c ∷ cs) e =
    run_sound (after (call s c)) cs (sound_stays s (wire_of c.number) c.mark (modulo_lt 65536 (omega arith) c.number) e)

-- what the calls cs on the record s come to
record Run (s : Source) (cs : List TruePacket) (end : Source) : Type 0 where
  state : run_from s cs ≡ end
  answers : AnsweredFrom s cs

-- the first of the calls is accepted
accepted : {s next end : Source} (c : TruePacket) (cs : List TruePacket) → leb c.mark 3 ≡ true → call s c ≡ Accepted next → Run next cs end → Run s (c ∷ cs) end
accepted {s} {next} {end} c cs m e r =
    let same : after (call s c) ≡ next = ap after e in
    record {
      state = ap (λ (t : Source). run_from t cs) same ∙ r.state;
      answers =
          (rw m (e ∙ ap Accepted (sym same)), subst (λ (t : Source). AnsweredFrom t cs) (sym same) r.answers);
    }

-- or refused with 10
refused : {s end : Source} (c : TruePacket) (cs : List TruePacket) → leb c.mark 3 ≡ false → sound s ≡ true → Run s cs end → Run s (c ∷ cs) end
refused {s} {end} c cs m g r =
    let e : call s c ≡ Refused Limits s = arrival_mark s (wire_of c.number) c.mark g (leb-false c.mark 3 m) in
    let same : after (call s c) ≡ s = ap after e in
    record {
      state = ap (λ (t : Source). run_from t cs) same ∙ r.state;
      answers = (rw m e, subst (λ (t : Source). AnsweredFrom t cs) (sym same) r.answers);
    }

-- ---- after the first arrival

run_later : {base : ℤ} (q : TruePacket) (qs : List TruePacket) → Known base q qs → (cs : List TruePacket) → SteadyAfter (greatest q.number qs) (arrivals cs)
    → length (q ∷ qs) + length (arrivals cs) ≤ 2 ^ 48 → Run (count_from base (q ∷ qs)) cs (count_from base (reverse_aux (arrivals cs) (q ∷ qs)))
run_later q qs k [] st few = record { state = refl; answers = tt }
run_later {base} q qs k (c ∷ cs) st few = go (leb c.mark 3) refl st few (λ st l. run_later q qs k cs st l) (λ kn st l. run_later c (q ∷ qs) kn cs st l)
  where
    xs : List TruePacket
    xs = arrivals cs

    go : (b : Bool) → leb c.mark 3 ≡ b → SteadyAfter (greatest q.number qs) (cond b (c ∷ xs) xs) → length (q ∷ qs) + length (cond b (c ∷ xs) xs) ≤ 2 ^ 48
        → (SteadyAfter (greatest q.number qs) xs → length (q ∷ qs) + length xs ≤ 2 ^ 48 → Run (count_from base (q ∷ qs)) cs (count_from base (reverse_aux xs (q ∷ qs))))
        → (Known base c (q ∷ qs) → SteadyAfter (greatest c.number (q ∷ qs)) xs → length (c ∷ (q ∷ qs)) + length xs ≤ 2 ^ 48
        → Run (count_from base (c ∷ (q ∷ qs))) cs (count_from base (reverse_aux xs (c ∷ (q ∷ qs)))))
        → Run (count_from base (q ∷ qs)) (c ∷ cs) (count_from base (reverse_aux (cond b (c ∷ xs) xs) (q ∷ qs)))
    go false e st few same next = refused c cs e (count_sound k (omega arith)) (same st few)
    go true e st few same next =
        let m : c.mark ≤ 3 = leb-true c.mark 3 e in
        let n : Near k.high c.number = near k.high c.number
        (subst (λ (z : ℤ). (z -ℤ pos 99) ≤ℤ c.number) k.top st.0)
        (subst (λ (z : ℤ). c.number ≤ℤ (z +ℤ pos 2999)) k.top st.1) in
        accepted c cs e (call_later c q qs k m (omega arith) n)
        (next (known_next c q qs k m n) (subst (λ (z : ℤ). SteadyAfter z xs) (max_z_comm (greatest q.number qs) c.number) st.2) (omega arith))

-- ---- from the fresh record

run_first : (cs : List TruePacket) → Steady (arrivals cs) → length (arrivals cs) ≤ 2 ^ 48
    → Run fresh_record cs (count_from (base_of (arrivals cs)) (reverse (arrivals cs)))
run_first [] st few = record { state = sym (count_none (pos 0) refl); answers = tt }
run_first (c ∷ cs) st few = go (leb c.mark 3) refl st few (λ st l. run_first cs st l)
  where
    xs : List TruePacket
    xs = arrivals cs

    go : (b : Bool) → leb c.mark 3 ≡ b → Steady (cond b (c ∷ xs) xs) → length (cond b (c ∷ xs) xs) ≤ 2 ^ 48
        → (Steady xs → length xs ≤ 2 ^ 48 → Run fresh_record cs (count_from (base_of xs) (reverse xs)))
        → Run fresh_record (c ∷ cs) (count_from (base_of (cond b (c ∷ xs) xs)) (reverse (cond b (c ∷ xs) xs)))
    go false e st few same = refused c cs e fresh_sound (same st few)
    go true e st few same =
        let m : c.mark ≤ 3 = leb-true c.mark 3 e in
        accepted c cs e (call_first c st.0 st.1 m) (run_later c [] (known_first c st.0 st.1 m) cs st.2 (omega arith))

pub record Counted (cs : List TruePacket) : Type 0 where
  pub state : run_from fresh_record cs ≡ count (arrivals cs)
  pub answers : AnsweredFrom fresh_record cs

pub run_counted : (cs : List TruePacket) → Steady (arrivals cs) → length (arrivals cs) ≤ 2 ^ 48 → Counted cs
run_counted cs st few =
    let r = run_first cs st few in
    record { state = r.state ∙ perm_count (base_of (arrivals cs)) (perm_reverse (arrivals cs)); answers = r.answers }
