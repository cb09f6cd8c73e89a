-- Calls in either order, and lists of calls. Assumes nothing.
use Rattle.std.specs.Prelude.{Option, Some, None}
use mathlib.Core.Path.{◌≡◌, refl, sym, ap, ap₂, ◌∙◌}
use mathlib.Core.Bool.{Bool, true, false, cond, ◌&&◌, false≢true}
use mathlib.Core.List.{List, [], ◌∷◌, ◌++◌}
use Prim.Native.Nat.{ℕ, ◌-◌, ◌<◌}
use native.Mathlib.Omega.{arith}
use borrow.Author.Tests.{eqb-true, eqb-false, ne_eqb, ltb-true}
use lib.Dec.{ltb, eqb}
use lib.ListN.{length, take}
use lib.Seq.{take-take}
use Rattle.answers.specs.declared.Refusal.{Refusal}
use Rattle.answers.specs.declared.Refusal.TheVariants.{Places}
use Rattle.answers.proofs.Conditions.{and_left, and_right}
use Rattle.source.specs.declared.Source.{Source}
use Rattle.source.specs.Arrivals.{arrival, after}
use Rattle.source.proofs.Answers.{arrival_mark}
use Rattle.sources.specs.declared.Place.{Place}
use Rattle.sources.specs.Places.{held_of, rest_of}
use Rattle.sources.specs.Rules.{rising, fault}
use Rattle.sources.specs.Stands.{found, put, record_in, record_of, new_to, with_place}
use Rattle.sources.specs.Answers.{full, refusal, told_unless, kept, arrive_answer, arrive_places}
use Rattle.sources.specs.Theorems.{taken, Arrival, answer, behind_one, EitherOrder, behind_all, seated, places_suffice, naming, record_behind, Wires, EachSourceAlone}
use Rattle.sources.proofs.Checking.{kept as kept_of, kept_rises}
use Rattle.sources.proofs.Fronts.{front_rest}
use Rattle.sources.proofs.Sorted.{found_put, rising_put, same_found}
use Rattle.sources.proofs.Loaded.{put_long, arrive_long}
use Rattle.sources.proofs.Behind.{free, rest_behind, record_sound, next_some, arrive_is, arrive_held, others_keep, arrival_keeps_rules}

-- ---- in either order

-- a call that is taken meets none of 16, 9, 10 and 15
taken_free : (ps : List Place) (a : Arrival) → taken (answer ps a) ≡ true → refusal (ltb 3 a.mark) a.ssrc ps ≡ None
unfolding arrive_answer
taken_free ps a e = go (refusal (ltb 3 a.mark) a.ssrc ps) e
  where
    go : (r : Option Refusal) → taken (told_unless r (arrival (record_of a.ssrc ps) a.wire a.mark)) ≡ true → r ≡ None
    go None e = refl
    go (Some r) e = absurd (false≢true e)

-- the place that an arrival puts in
abbrev place_of : List Place → Arrival → Place
place_of ps a = record { ssrc = a.ssrc; source = after (arrival (record_of a.ssrc ps) a.wire a.mark) }

module _ (ps : List Place) (a b : Arrival) (wa : a.wire.0 < 65536) (wb : b.wire.0 < 65536) (apart : eqb a.ssrc b.ssrc ≡ false)
    (fa : refusal (ltb 3 a.mark) a.ssrc ps ≡ None) (fb : refusal (ltb 3 b.mark) b.ssrc (behind_one ps a) ≡ None) where
  abbrev held : List Place
  held = held_of ps

  -- the second call finds its source as the table had it
  same_record : record_of b.ssrc (behind_one ps a) ≡ record_of b.ssrc ps
  same_record =
      ap record_in (others_keep ps a.ssrc a.wire a.mark wa fa b.ssrc ∙ ap (λ (t : Bool). cond t (Some (place_of ps a).source) (found b.ssrc held)) apart)

  same_place : place_of (behind_one ps a) b ≡ place_of ps b
  same_place = λ i. record { ssrc = b.ssrc; source = after (arrival (same_record i) b.wire b.mark) }

  pub held_both : held_of (behind_one (behind_one ps a) b) ≡ put (place_of ps b) (put (place_of ps a) held)
  held_both =
      arrive_held (behind_one ps a) b.ssrc b.wire b.mark wb fb ∙ ap₂ put same_place (arrive_held ps a.ssrc a.wire a.mark wa fa)

  pub rest_both : rest_of (behind_one (behind_one ps a) b) ≡ take (length ps - length (put (place_of ps b) (put (place_of ps a) held))) (rest_of ps)
  rest_both =
      let f = free (ltb 3 a.mark) a.ssrc ps fa in
      let g = free (ltb 3 b.mark) b.ssrc (behind_one ps a) fb in
      let first = ap rest_of (arrive_is ps a.ssrc a.wire a.mark fa) ∙ rest_behind a.ssrc ps (place_of ps a).source f.good (next_some ps a.ssrc a.wire a.mark wa f) f.room in
      let second = ap rest_of (arrive_is (behind_one ps a) b.ssrc b.wire b.mark fb) ∙ rest_behind b.ssrc (behind_one ps a) (place_of (behind_one ps a) b).source g.good (next_some (behind_one ps a) b.ssrc b.wire b.mark wb g) g.room in
      let size : length (behind_one ps a) - length (put (place_of (behind_one ps a) b) (held_of (behind_one ps a))) ≡ length ps - length (put (place_of ps b) (put (place_of ps a) held)) =
      ap₂ (λ (m n : ℕ). m - n) (arrive_long ps a.ssrc a.wire a.mark) (ap length (ap₂ put same_place (arrive_held ps a.ssrc a.wire a.mark wa fa))) in
      let more = put_long (place_of ps b) (put (place_of ps a) held) in
      second
      ∙ ap₂ take size first
      ∙ take-take (length ps - length (put (place_of ps b) (put (place_of ps a) held))) (length ps - length (put (place_of ps a) held)) (rest_of ps) (omega arith)

-- what is put in either order is the same
put_both : (p q : Place) (ps : List Place) → rising 0 ps ≡ true → eqb p.ssrc q.ssrc ≡ false → put q (put p ps) ≡ put p (put q ps)
put_both p q ps r e =
    same_found 0 (put q (put p ps)) (put p (put q ps)) (rising_put 0 q (put p ps) (omega arith) (rising_put 0 p ps (omega arith) r)) (rising_put 0 p (put q ps) (omega arith) (rising_put 0 q ps (omega arith) r))
    (λ ssrc. found_put ssrc q (put p ps) ∙ ap (cond (eqb q.ssrc ssrc) (Some q.source)) (found_put ssrc p ps) ∙ go ssrc (eqb p.ssrc ssrc) refl (eqb q.ssrc ssrc) refl
    ∙ sym (found_put ssrc p (put q ps) ∙ ap (cond (eqb p.ssrc ssrc) (Some p.source)) (found_put ssrc q ps)))
  where
    go : (ssrc : ℕ) (x : Bool) → eqb p.ssrc ssrc ≡ x → (y : Bool) → eqb q.ssrc ssrc ≡ y
        → cond (eqb q.ssrc ssrc) (Some q.source) (cond (eqb p.ssrc ssrc) (Some p.source) (found ssrc ps))
        ≡ cond (eqb p.ssrc ssrc) (Some p.source) (cond (eqb q.ssrc ssrc) (Some q.source) (found ssrc ps))
    go ssrc true hx true hy = absurd (let a = eqb-true p.ssrc ssrc hx in let b = eqb-true q.ssrc ssrc hy in eqb-false p.ssrc q.ssrc e (omega arith))
    go ssrc true hx false hy = rw (hx, hy)
    go ssrc false hx true hy = rw (hx, hy)
    go ssrc false hx false hy = rw (hx, hy)

pub either_order : EitherOrder
either_order ps a b wa wb apart ta tab tb tba =
    let fa = taken_free ps a ta in
    let fb = taken_free ps b tb in
    let fab = taken_free (behind_one ps a) b tab in
    let fba = taken_free (behind_one ps b) a tba in
    let turned : eqb b.ssrc a.ssrc ≡ false = ne_eqb b.ssrc a.ssrc (λ z. eqb-false a.ssrc b.ssrc apart (sym z)) in
    let same = put_both (place_of ps a) (place_of ps b) (held_of ps) (kept_rises ps (free (ltb 3 a.mark) a.ssrc ps fa).good.ruled) apart in
    let held = held_both ps a b wa wb apart fa fab ∙ same ∙ sym (held_both ps b a wb wa turned fb fba) in
    let rest = rest_both ps a b wa wb apart fa fab ∙ ap (λ (l : List Place). take (length ps - length l) (rest_of ps)) same ∙ sym (rest_both ps b a wb wa turned fb fba) in
    sym (front_rest (behind_one (behind_one ps a) b)) ∙ ap₂ (λ (l r : List Place). l ++ r) held rest ∙ front_rest (behind_one (behind_one ps b) a)

-- ---- a list of calls

module _ (ps : List Place) (a : Arrival) (ssrc : ℕ) (w : a.wire.0 < 65536) (good : fault ps ≡ None) (seat : cond (eqb a.ssrc ssrc) (seated (answer ps a)) true ≡ true) where
  abbrev stepped : Source
  stepped = cond (eqb a.ssrc ssrc) (after (arrival (record_of ssrc ps) a.wire a.mark)) (record_of ssrc ps)

  -- a call that 10 refuses hands back the record, as the record's own answer does
  kept_limits : ltb 3 a.mark ≡ true → record_of ssrc ps ≡ stepped
  kept_limits o = go (eqb a.ssrc ssrc)
    where
      go : (b : Bool) → record_of ssrc ps ≡ cond b (after (arrival (record_of ssrc ps) a.wire a.mark)) (record_of ssrc ps)
      go true = sym (ap after (arrival_mark (record_of ssrc ps) a.wire a.mark (record_sound ssrc ps (kept_of ps good)) (ltb-true 3 a.mark o)))
      go false = refl

  step_free : refusal (ltb 3 a.mark) a.ssrc ps ≡ None → record_of ssrc (behind_one ps a) ≡ stepped
  step_free f = ap record_in (others_keep ps a.ssrc a.wire a.mark w f ssrc) ∙ go (eqb a.ssrc ssrc) refl
    where
      go : (b : Bool) → eqb a.ssrc ssrc ≡ b
          → record_in (cond b (Some (after (arrival (record_of a.ssrc ps) a.wire a.mark))) (found ssrc (held_of ps)))
          ≡ cond b (after (arrival (record_of ssrc ps) a.wire a.mark)) (record_of ssrc ps)
      go true e = ap (λ (k : ℕ). after (arrival (record_of k ps) a.wire a.mark)) (eqb-true a.ssrc ssrc e)
      go false e = refl

  step_kept : {r : Refusal} → refusal (ltb 3 a.mark) a.ssrc ps ≡ Some r → record_of ssrc (behind_one ps a) ≡ stepped
  unfolding arrive_places arrive_answer refusal
  step_kept {r} e = ap (λ (o : Option Refusal). record_of ssrc (kept o ps (with_place (place_of ps a) ps))) e ∙ go (ltb 3 a.mark) refl (new_to a.ssrc ps && full ps) refl
    where
      go : (o : Bool) → ltb 3 a.mark ≡ o → (c : Bool) → (new_to a.ssrc ps && full ps) ≡ c → record_of ssrc ps ≡ stepped
      go true ho c hc = kept_limits ho
      go false ho true hc = names (eqb a.ssrc ssrc) seat
        where
          full_is : ltb 3 a.mark ≡ false → (new_to a.ssrc ps && full ps) ≡ true → refusal (ltb 3 a.mark) a.ssrc ps ≡ Some Places
          full_is x y = rw (good, x, y)

          names : (b : Bool) → cond b (seated (answer ps a)) true ≡ true → record_of ssrc ps ≡ cond b (after (arrival (record_of ssrc ps) a.wire a.mark)) (record_of ssrc ps)
          names true s = absurd (false≢true (sym (ap (λ (o : Option Refusal). seated (told_unless o (arrival (record_of a.ssrc ps) a.wire a.mark))) (full_is ho hc)) ∙ s))
          names false s = refl
      go false ho false hc = absurd (never (sym e ∙ free_is ho hc))
        where
          never : ◌≡◌ {A = Option Refusal} (Some r) None → ⊥
          never z = let y : ◌≡◌ {A = ℕ} 0 1 = cc in omega arith

          free_is : ltb 3 a.mark ≡ false → (new_to a.ssrc ps && full ps) ≡ false → refusal (ltb 3 a.mark) a.ssrc ps ≡ None
          free_is x y = rw (good, x, y)

  pub step_record : record_of ssrc (behind_one ps a) ≡ stepped
  step_record = go (refusal (ltb 3 a.mark) a.ssrc ps) refl
    where
      go : (r : Option Refusal) → refusal (ltb 3 a.mark) a.ssrc ps ≡ r → record_of ssrc (behind_one ps a) ≡ stepped
      go None e = step_free e
      go (Some r) e = step_kept e

pub each_source_alone : EachSourceAlone
unfolding behind_all places_suffice naming record_behind Wires
each_source_alone ps [] ssrc ws good suffice = refl
each_source_alone ps (a ∷ rest) ssrc ws good suffice =
    let seat = and_left (cond (eqb a.ssrc ssrc) (seated (answer ps a)) true) (places_suffice ssrc (behind_one ps a) rest) suffice in
    let more = and_right (cond (eqb a.ssrc ssrc) (seated (answer ps a)) true) (places_suffice ssrc (behind_one ps a) rest) suffice in
    each_source_alone (behind_one ps a) rest ssrc ws.1 (arrival_keeps_rules ps a.ssrc a.wire a.mark ws.0 good) more
    ∙ ap (λ (s : Source). record_behind s (naming ssrc rest)) (step_record ps a ssrc ws.0 good seat)
    ∙ go (eqb a.ssrc ssrc)
  where
    go : (b : Bool) → record_behind (cond b (after (arrival (record_of ssrc ps) a.wire a.mark)) (record_of ssrc ps)) (naming ssrc rest)
        ≡ record_behind (record_of ssrc ps) (cond b (a ∷ naming ssrc rest) (naming ssrc rest))
    go true = refl
    go false = refl
