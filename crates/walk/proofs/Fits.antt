-- The blocks of a piece, as far as the output has room. Assumes nothing.
use Rattle.std.specs.Prelude.{Option, Some, None}
use mathlib.Core.Path.{◌≡◌, refl, sym, ap, ◌∙◌}
use mathlib.Core.Bool.{Bool, true, false, cond}
use mathlib.Core.List.{List, [], ◌∷◌, ◌++◌}
use Prim.Native.Nat.{ℕ, zero, suc, ◌+◌, ◌-◌, ◌*◌, ◌≤◌}
use native.Mathlib.Nat.{add-zero, suc-mul}
use native.Mathlib.Omega.{arith}
use borrow.Author.Tests.{ltb-true, ltb-false}
use lib.Dec.{ltb}
use lib.ListN.{length, drop, length-append}
use Rattle.answers.specs.declared.Refusal.{Refusal}
use Rattle.walk.specs.Programs.{Ending, nothing, both, Turn, Program, Run, ending_at, more, turned, onward, walk}
use Rattle.walk.specs.Pieces.{Octets, whole_in}
use Rattle.walk.specs.Fitting.{Took, none_taken, one_more, front, fitting, run_of, FrontWalks, FittingIsFront, FittingFits, RoomIsEnough}
use Rattle.walk.proofs.Cuts.{Each}
use Rattle.walk.proofs.Pieces.{whole_many, octets_wholes}
use Rattle.walk.proofs.Walks.{onward_assoc}

-- a run that has printed nothing and goes on is what follows
pub onward_here : {S : Type 0} (s : S) (rest : S → Run S) → onward (record { state = s; printed = nothing; ended = None }) rest ≡ rest s
unfolding onward
onward_here s rest = refl

-- what follows a run is asked of its state alone
onward_at : {S : Type 0} (r : Run S) (rest : S → Run S) → onward r rest ≡ onward r (λ s. rest r.state)
unfolding onward
onward_at {S} r rest = go r.ended
  where
    go : (e : Option Ending) → more r rest e ≡ more r (λ s. rest r.state) e
    go None = refl
    go (Some ending) = refl

module _ {S : Type 0} (p : Program S) where
  -- a turn, and what was taken behind it
  turn_goes : (i : ℕ) (t : Turn S) (w : Took S) (rest : S → Run S) → t.refusal ≡ None
      → onward (turned i t) (λ s. onward (run_of (suc i) w) rest) ≡ onward (run_of i (one_more t None w)) rest
  unfolding onward
  turn_goes i t w rest e =
      let same : suc i + w.taken ≡ i + suc w.taken = omega arith in
      sym (onward_assoc (turned i t) (λ s. run_of (suc i) w) rest)
      ∙ ap (λ (o : Option Refusal). onward (onward (turned i (record { state = t.state; printed = t.printed; refusal = o })) (λ s. run_of (suc i) w)) rest) e
      ∙ ap (λ (n : ℕ). onward (record { state = w.state; printed = both t.printed w.printed; ended = ending_at n w.refusal }) rest) same

  -- what the walk from a block is, where that of the blocks behind it is known
  module _ (i : ℕ) (b : List ℕ) (bs : List (List ℕ)) (s : S) (w : Took S)
      (back : walk p (suc i) bs (p.step i s b).state ≡ onward (run_of (suc i) w) (walk p (suc i + w.taken) (drop w.taken bs))) where
    taken_goes : (p.step i s b).refusal ≡ None
        → walk p i (b ∷ bs) s ≡ onward (run_of i (one_more (p.step i s b) None w)) (walk p (i + suc w.taken) (drop w.taken bs))
    unfolding walk
    taken_goes e =
        let t = p.step i s b in
        let same : suc i + w.taken ≡ i + suc w.taken = omega arith in
        onward_at (turned i t) (walk p (suc i) bs)
        ∙ ap (λ (r : Run S). onward (turned i t) (λ s. r)) back
        ∙ turn_goes i t w (walk p (suc i + w.taken) (drop w.taken bs)) e
        ∙ ap (λ (n : ℕ). onward (run_of i (one_more t None w)) (walk p n (drop w.taken bs))) same

    taken_refused : (refusal : Refusal) → (p.step i s b).refusal ≡ Some refusal
        → walk p i (b ∷ bs) s ≡ onward (run_of i (one_more (p.step i s b) (Some refusal) w)) (walk p (i + 0) (b ∷ bs))
    unfolding walk onward
    taken_refused refusal e =
        let t = p.step i s b in
        ap (λ (o : Option Refusal). onward (turned i (record { state = t.state; printed = t.printed; refusal = o })) (walk p (suc i) bs)) e
        ∙ ap (λ (n : ℕ). record { state = t.state; printed = t.printed; ended = ending_at n (Some refusal) }) (sym (add-zero i))

    taken_by : (o : Option Refusal) → (p.step i s b).refusal ≡ o
        → let u = one_more (p.step i s b) o w in
        walk p i (b ∷ bs) s ≡ onward (run_of i u) (walk p (i + u.taken) (drop u.taken (b ∷ bs)))
    taken_by None e = taken_goes e
    taken_by (Some refusal) e = taken_refused refusal e

  none_walks : (i : ℕ) (bs : List (List ℕ)) (s : S) → walk p i bs s ≡ onward (run_of i (none_taken s)) (walk p (i + 0) bs)
  none_walks i bs s = sym (onward_here s (walk p (i + 0) bs) ∙ ap (λ (n : ℕ). walk p n bs s) (add-zero i))

pub front_walks : FrontWalks
unfolding front
front_walks S p i zero bs others s = none_walks p i (bs ++ others) s
front_walks S p i (suc most) [] others s = none_walks p i others s
front_walks S p i (suc most) (b ∷ bs) others s =
    let t = p.step i s b in
    taken_by p i b (bs ++ others) s (front p (suc i) most bs t.state) (front_walks S p (suc i) most bs others t.state) t.refusal refl

pub front_few : {S : Type 0} (p : Program S) (i most : ℕ) (bs : List (List ℕ)) (s : S) → (front p i most bs s).taken ≤ length bs
unfolding front
front_few p i zero bs s = omega arith
front_few p i (suc most) [] s = omega arith
front_few {S} p i (suc most) (b ∷ bs) s = let t = p.step i s b in go t t.refusal (front p (suc i) most bs t.state) (front_few p (suc i) most bs t.state)
  where
    go : (t : Turn S) (o : Option Refusal) (w : Took S) → w.taken ≤ length bs → (one_more t o w).taken ≤ suc (length bs)
    go t None w h = omega (arith, h)
    go t (Some refusal) w h = omega arith

pub fitting_is_front : FittingIsFront
unfolding fitting front
fitting_is_front S p i [] s room = (0, refl)
fitting_is_front S p i (b ∷ bs) s room =
    let t = p.step i s b in
    let n = length t.printed.out in
    go (ltb room n) (fitting_is_front S p (suc i) bs t.state (room - n))
  where
    go : (q : Bool) → let t = p.step i s b in let w = fitting p (suc i) bs t.state (room - length t.printed.out) in
        (most : ℕ) × (w ≡ front p (suc i) most bs t.state) → (most : ℕ) × (cond q (none_taken s) (one_more t t.refusal w) ≡ front p i most (b ∷ bs) s)
    go true h = (0, refl)
    go false h = (suc h.0, ap (one_more (p.step i s b) (p.step i s b).refusal) h.1)

-- ---- it fits

fits_by : {S : Type 0} (s : S) (t : Turn S) (w : Took S) (room many : ℕ) (q : Bool) (o : Option Refusal) → ltb room (length t.printed.out) ≡ q
    → (length w.printed.out ≤ room - length t.printed.out) × (w.taken ≤ many)
    → let u = cond q (none_taken s) (one_more t o w) in (length u.printed.out ≤ room) × (u.taken ≤ suc many)
fits_by s t w room many true o e h = (omega arith, omega arith)
fits_by s t w room many false None e h =
    let large = ltb-false room (length t.printed.out) e in
    (omega (arith, h.0, large, length-append t.printed.out w.printed.out), omega (arith, h.1))
fits_by s t w room many false (Some refusal) e h = let large = ltb-false room (length t.printed.out) e in (omega (arith, large), omega arith)

pub fitting_fits : FittingFits
unfolding fitting
fitting_fits S p i [] s room = (omega arith, omega arith)
fitting_fits S p i (b ∷ bs) s room =
    let t = p.step i s b in
    let n = length t.printed.out in
    fits_by s t (fitting p (suc i) bs t.state (room - n)) room (length bs) (ltb room n) t.refusal refl (fitting_fits S p (suc i) bs t.state (room - n))

-- ---- what every turn keeps

module _ {S : Type 0} (p : Program S) (P : S → Type 0) (turns : (i : ℕ) (s : S) (b : List ℕ) → P s → Octets b → P (p.step i s b).state) where
  keeps_by : (s : S) (t : Turn S) (w : Took S) (q : Bool) (o : Option Refusal) → P s → P t.state → P w.state → P (cond q (none_taken s) (one_more t o w)).state
  keeps_by s t w true o g h k = g
  keeps_by s t w false None g h k = k
  keeps_by s t w false (Some refusal) g h k = h

  pub fitting_keeps : (i : ℕ) (bs : List (List ℕ)) (s : S) (room : ℕ) → P s → Each Octets bs → P (fitting p i bs s room).state
  unfolding fitting
  fitting_keeps i [] s room g o = g
  fitting_keeps i (b ∷ bs) s room g o =
      let t = p.step i s b in
      let n = length t.printed.out in
      let k = turns i s b g o.0 in
      keeps_by s t (fitting p (suc i) bs t.state (room - n)) (ltb room n) t.refusal g k (fitting_keeps (suc i) bs t.state (room - n) k o.1)

-- where no turn prints on standard error, all of them together do not
module _ {S : Type 0} (p : Program S) (quiet : (i : ℕ) (s : S) (b : List ℕ) → (p.step i s b).printed.err ≡ []) where
  quiet_by : (s : S) (t : Turn S) (w : Took S) (q : Bool) (o : Option Refusal) → t.printed.err ≡ [] → w.printed.err ≡ []
      → (cond q (none_taken s) (one_more t o w)).printed.err ≡ []
  quiet_by s t w true o g h = refl
  quiet_by s t w false None g h = ap (λ (e : List ℕ). e ++ w.printed.err) g ∙ h
  quiet_by s t w false (Some refusal) g h = g

  pub fitting_quiet : (i : ℕ) (bs : List (List ℕ)) (s : S) (room : ℕ) → (fitting p i bs s room).printed.err ≡ []
  unfolding fitting
  fitting_quiet i [] s room = refl
  fitting_quiet i (b ∷ bs) s room =
      let t = p.step i s b in
      let n = length t.printed.out in
      quiet_by s t (fitting p (suc i) bs t.state (room - n)) (ltb room n) t.refusal (quiet i s b) (fitting_quiet (suc i) bs t.state (room - n))

-- ---- room for the most that a block prints is enough

module _ {S : Type 0} (p : Program S) (P : S → Type 0) (most : ℕ)
    (turns : (i : ℕ) (s : S) (b : List ℕ) → P s → Octets b → (length (p.step i s b).printed.out ≤ most) × P (p.step i s b).state) where
  all_by : (s : S) (t : Turn S) (w : Took S) (room many : ℕ) (q : Bool) (o : Option Refusal) → ltb room (length t.printed.out) ≡ q → length t.printed.out ≤ room
      → (w.refusal ≡ None → w.taken ≡ many) → let u = cond q (none_taken s) (one_more t o w) in u.refusal ≡ None → u.taken ≡ suc many
  all_by s t w room many true o e h k r = absurd (omega (arith, ltb-true room (length t.printed.out) e, h))
  all_by s t w room many false None e h k r = ap suc (k r)
  all_by s t w room many false (Some refusal) e h k r = let z : ◌≡◌ {A = ℕ} 0 1 = cc in absurd (omega arith)

  all_taken : (i : ℕ) (bs : List (List ℕ)) (s : S) (room : ℕ) → P s → Each Octets bs → length bs * most ≤ room
      → (fitting p i bs s room).refusal ≡ None → (fitting p i bs s room).taken ≡ length bs
  unfolding fitting
  all_taken i [] s room g o h = λ r. refl
  all_taken i (b ∷ bs) s room g o h =
      let t = p.step i s b in
      let n = length t.printed.out in
      let k = turns i s b g o.0 in
      let m : suc (length bs) * most ≡ length bs * most + most = suc-mul (length bs) most in
      let fits : n ≤ room = omega (arith, k.0, m, h) in
      let less : length bs * most ≤ room - n = omega (arith, k.0, m, h) in
      all_by s t (fitting p (suc i) bs t.state (room - n)) room (length bs) (ltb room n) t.refusal refl fits
      (all_taken (suc i) bs t.state (room - n) k.1 o.1 less)

pub room_is_enough : RoomIsEnough
room_is_enough S p P most turns i piece s room g o h r =
    let many = whole_many piece in
    let less : length (whole_in piece) * most ≤ room = rw many h in
    all_taken p P most turns i (whole_in piece) s room g (octets_wholes piece o) less r ∙ many
