-- The lent bytes: block 0, the place of the next block, and what stands after them. Assumes nothing.
use mathlib.Core.Path.{◌≡◌, refl, sym, ap, ap₂, ◌∙◌}
use mathlib.Core.Bool.{true}
use mathlib.Core.List.{List, [], ◌∷◌, ◌++◌, append_assoc}
use Prim.Native.Nat.{ℕ, zero, suc, ◌+◌, ◌-◌, ◌≤◌}
use native.Mathlib.Omega.{arith}
use borrow.Author.Tests.{eqb-true}
use borrow.Rule.Slice.PartMut.{put_mid}
use lib.Dec.{eqb}
use lib.ListN.{length, take, drop, replicate, length-append, length-take, length-drop, length-replicate, take-append-drop}
use lib.Seq.{sets, length-sets, sets-eq, take-append-le, drop-append-le, drop-drop, take-take, take-add, take_at, drop_at, take-nil}
use Rattle.answers.proofs.Conditions.{and_left, and_right}
use Rattle.format.specs.Blocks.{block_bytes}
use Rattle.trace.specs.Contents.{every, is_zero}
use Rattle.convert.specs.Feeds.{lent_bytes, zeroth_in, part_in, padded, lent_of}

-- ---- parts of lists

pub drop-take : (k n : ℕ) (l : List ℕ) → drop k (take n l) ≡ take (n - k) (drop k l)
drop-take zero n l = let e : n ≡ n - 0 = omega arith in ap (λ (m : ℕ). take m l) e
drop-take (suc k) zero l = let e : 0 - suc k ≡ 0 = omega arith in sym (ap (λ (m : ℕ). take m (drop (suc k) l)) e)
drop-take (suc k) (suc n) [] = sym (take-nil (suc n - suc k))
drop-take (suc k) (suc n) (c ∷ l) = let e : n - k ≡ suc n - suc k = omega arith in drop-take k n l ∙ ap (λ (m : ℕ). take m (drop k l)) e

pub after_kept : (lent : List ℕ) (n : ℕ) → drop n (part_in lent) ≡ take (lent_bytes - (block_bytes + n)) (drop (block_bytes + n) lent)
after_kept lent n =
    let e : block_bytes - n ≡ lent_bytes - (block_bytes + n) = omega arith in
    drop-take n block_bytes (drop block_bytes lent) ∙ ap₂ (λ (m : ℕ) (l : List ℕ). take m l) e (drop-drop n block_bytes lent)

-- zeros are all alike
pub zeros_are : (l : List ℕ) → every is_zero l ≡ true → l ≡ replicate (length l) 0
unfolding every
zeros_are [] e = refl
zeros_are (c ∷ l) e = ap₂ (λ (a : ℕ) (t : List ℕ). a ∷ t) (eqb-true c 0 (and_left (eqb c 0) (every is_zero l) e)) (zeros_are l (and_right (eqb c 0) (every is_zero l) e))

pub zeros_hold : (n : ℕ) → every is_zero (replicate n 0) ≡ true
unfolding every
zeros_hold zero = refl
zeros_hold (suc n) = zeros_hold n

-- ---- what is stored at a place

-- a part that is written anew
pub put_is_stored : (xs ys : List ℕ) (at n : ℕ) → length ys ≡ n → at + n ≤ length xs → put_mid at n xs ys ≡ sets xs at ys
put_is_stored xs ys at n long inside =
    let end : at + n ≡ at + length ys = omega (arith, long) in
    ap (λ (l : List ℕ). take at xs ++ (ys ++ l)) (drop-drop n at xs ∙ ap (λ (k : ℕ). drop k xs) end)
    ∙ sym (append_assoc (take at xs) ys (drop (at + length ys) xs))
    ∙ sym (sets-eq ys xs at (omega (arith, long)))

module _ (l : List ℕ) (at : ℕ) (vs : List ℕ) (fits : at + length vs ≤ length l) where
  pub take-sets : (n : ℕ) → n ≤ at → take n (sets l at vs) ≡ take n l
  take-sets n h =
      let front : length (take at l) ≡ at = length-take at l ∙ omega arith in
      ap (take n) (sets-eq vs l at fits ∙ append_assoc (take at l) vs (drop (at + length vs) l))
      ∙ take-append-le n (take at l) (vs ++ drop (at + length vs) l) (omega arith)
      ∙ take-take n at l h

  pub drop-sets : drop at (sets l at vs) ≡ vs ++ drop (at + length vs) l
  drop-sets =
      let front : length (take at l) ≡ at = length-take at l ∙ omega arith in
      ap (drop at) (sets-eq vs l at fits ∙ append_assoc (take at l) vs (drop (at + length vs) l)) ∙ drop_at (take at l) (vs ++ drop (at + length vs) l) at front

  pub behind_sets : (n : ℕ) → at + length vs ≤ n → drop n (sets l at vs) ≡ drop n l
  behind_sets n h =
      let m : n - at - length vs ≡ n - (at + length vs) = omega arith in
      let e : at + (n - at) ≡ n = omega arith in
      let d : length vs + (n - at - length vs) ≡ n - at = omega arith in
      let f : at + length vs + (n - at - length vs) ≡ n = omega arith in
      ap (λ (k : ℕ). drop k (sets l at vs)) (sym e) ∙ sym (drop-drop (n - at) at (sets l at vs)) ∙ ap (drop (n - at)) drop-sets
      ∙ ap (λ (k : ℕ). drop k (vs ++ drop (at + length vs) l)) (sym d)
      ∙ sym (drop-drop (n - at - length vs) (length vs) (vs ++ drop (at + length vs) l))
      ∙ ap (drop (n - at - length vs)) (drop_at vs (drop (at + length vs) l) (length vs) refl)
      ∙ drop-drop (n - at - length vs) (at + length vs) l ∙ ap (λ (k : ℕ). drop k l) f

-- what is stored again at the same place
pub sets-again : (l : List ℕ) (at : ℕ) (vs ws : List ℕ) → length vs ≡ length ws → at + length ws ≤ length l → sets (sets l at vs) at ws ≡ sets l at ws
sets-again l at vs ws e h =
    let size = length-sets l at vs in
    sets-eq ws (sets l at vs) at (omega arith)
    ∙ ap₂ (λ (a b : List ℕ). (a ++ ws) ++ b) (take-sets l at vs (omega arith) at (omega arith)) (behind_sets l at vs (omega arith) (at + length ws) (omega arith))
    ∙ sym (sets-eq ws l at h)

-- what stood there
pub sets_same : (l : List ℕ) (at : ℕ) (vs : List ℕ) → at + length vs ≤ length l → take (length vs) (drop at l) ≡ vs → sets l at vs ≡ l
sets_same l at vs h e =
    sets-eq vs l at h ∙ ap (λ (x : List ℕ). (take at l ++ x) ++ drop (at + length vs) l) (sym e)
    ∙ append_assoc (take at l) (take (length vs) (drop at l)) (drop (at + length vs) l)
    ∙ ap (λ (x : List ℕ). take at l ++ (take (length vs) (drop at l) ++ x)) (sym (drop-drop (length vs) at l))
    ∙ ap (λ (x : List ℕ). take at l ++ x) (take-append-drop (length vs) (drop at l))
    ∙ take-append-drop at l

-- ---- the places

pub padded_long : (kept : List ℕ) → length kept ≤ block_bytes → length (padded kept) ≡ block_bytes
padded_long kept h = length-append kept (replicate (block_bytes - length kept) 0) ∙ omega (arith, length-replicate {A = ℕ} (block_bytes - length kept) 0)

-- block 0 and what is kept, stored at their places
pub stored_is : (zeroth kept lent : List ℕ) → lent_bytes ≤ length lent → length zeroth ≡ block_bytes → length kept ≤ block_bytes
    → sets (sets lent 0 zeroth) block_bytes (padded kept) ≡ lent_of zeroth kept lent
stored_is zeroth kept lent h z k =
    let p = padded_long kept k in
    let size = length-sets lent 0 zeroth in
    let front : take block_bytes (sets lent 0 zeroth) ≡ zeroth =
    ap (take block_bytes) (drop-sets lent 0 zeroth (omega arith)) ∙ take_at zeroth (drop (0 + length zeroth) lent) block_bytes z in
    let end : drop (block_bytes + length (padded kept)) (sets lent 0 zeroth) ≡ drop lent_bytes lent =
    let e : block_bytes + length (padded kept) ≡ lent_bytes = omega arith in
    ap (λ (n : ℕ). drop n (sets lent 0 zeroth)) e ∙ behind_sets lent 0 zeroth (omega arith) lent_bytes (omega arith) in
    sets-eq (padded kept) (sets lent 0 zeroth) block_bytes (omega arith)
    ∙ ap₂ (λ (a b : List ℕ). (a ++ padded kept) ++ b) front end
    ∙ append_assoc zeroth (padded kept) (drop lent_bytes lent)

module _ (lent : List ℕ) (h : lent_bytes ≤ length lent) where
  pub zeroth_long : length (zeroth_in lent) ≡ block_bytes
  zeroth_long = length-take block_bytes lent ∙ omega arith

  pub part_long : length (part_in lent) ≡ block_bytes
  part_long = length-take block_bytes (drop block_bytes lent) ∙ omega (arith, length-drop block_bytes lent)

  -- block 0 as it stands
  pub zeroth_same : sets lent 0 (zeroth_in lent) ≡ lent
  zeroth_same = sets_same lent 0 (zeroth_in lent) (omega (arith, zeroth_long)) (ap (λ (n : ℕ). take n lent) zeroth_long)

  pub stored_there : (kept : List ℕ) → length kept ≤ block_bytes → sets lent block_bytes (padded kept) ≡ lent_of (zeroth_in lent) kept lent
  stored_there kept k = ap (λ (l : List ℕ). sets l block_bytes (padded kept)) (sym zeroth_same) ∙ stored_is (zeroth_in lent) kept lent h zeroth_long k

  -- the places of what was stored
  module _ (zeroth kept : List ℕ) (z : length zeroth ≡ block_bytes) (k : length kept ≤ block_bytes) where
    pub lent_zeroth : zeroth_in (lent_of zeroth kept lent) ≡ zeroth
    lent_zeroth = take_at zeroth (padded kept ++ drop lent_bytes lent) block_bytes z

    pub lent_part : part_in (lent_of zeroth kept lent) ≡ padded kept
    lent_part = ap (take block_bytes) (drop_at zeroth (padded kept ++ drop lent_bytes lent) block_bytes z) ∙ take_at (padded kept) (drop lent_bytes lent) block_bytes (padded_long kept k)

    pub lent_behind : drop lent_bytes (lent_of zeroth kept lent) ≡ drop lent_bytes lent
    lent_behind =
        let both : length (zeroth ++ padded kept) ≡ lent_bytes = length-append zeroth (padded kept) ∙ omega (arith, padded_long kept k) in
        ap (drop lent_bytes) (sym (append_assoc zeroth (padded kept) (drop lent_bytes lent))) ∙ drop_at (zeroth ++ padded kept) (drop lent_bytes lent) lent_bytes both

    pub lent_long : length (lent_of zeroth kept lent) ≡ length lent
    lent_long =
        length-append zeroth (padded kept ++ drop lent_bytes lent)
        ∙ omega (arith, length-append (padded kept) (drop lent_bytes lent), padded_long kept k, length-drop lent_bytes lent)

drop-zeros : (j m : ℕ) → drop j (replicate {A = ℕ} m 0) ≡ replicate (m - j) 0
drop-zeros zero m = let e : m ≡ m - 0 = omega arith in ap (λ (i : ℕ). replicate i 0) e
drop-zeros (suc j) zero = let e : 0 ≡ 0 - suc j = omega arith in ap (λ (i : ℕ). replicate {A = ℕ} i 0) e
drop-zeros (suc j) (suc m) = drop-zeros j m ∙ (let e : m - j ≡ suc m - suc j = omega arith in ap (λ (i : ℕ). replicate i 0) e)

regroup : (z k s r t : List ℕ) → ((z ++ k) ++ s) ++ (r ++ t) ≡ z ++ (((k ++ s) ++ r) ++ t)
regroup z k s r t = simp append_assoc

-- ---- an upload's lent bytes, of which n are kept and those after them zero

module _ (lent : List ℕ) (n : ℕ) (h : lent_bytes ≤ length lent) (k : n ≤ block_bytes) (e : every is_zero (drop n (part_in lent)) ≡ true) where
  abbrev kept : List ℕ
  kept = take n (part_in lent)

  kept_long : length kept ≡ n
  kept_long = length-take n (part_in lent) ∙ omega (arith, part_long lent h)

  unused : drop n (part_in lent) ≡ replicate (block_bytes - n) 0
  unused = zeros_are (drop n (part_in lent)) e ∙ (let s : length (drop n (part_in lent)) ≡ block_bytes - n = length-drop n (part_in lent) ∙ omega (arith, part_long lent h) in ap (λ (m : ℕ). replicate m 0) s)

  pub place_is : part_in lent ≡ padded kept
  place_is = sym (take-append-drop n (part_in lent)) ∙ ap (λ (l : List ℕ). kept ++ l) (unused ∙ (let s : block_bytes - n ≡ block_bytes - length kept = omega (arith, kept_long) in ap (λ (m : ℕ). replicate m 0) s))

  -- zeros stored where zeros stand
  pub clear_same : sets lent (block_bytes + n) (replicate (lent_bytes - (block_bytes + n)) 0) ≡ lent
  clear_same =
      let z = replicate {A = ℕ} (lent_bytes - (block_bytes + n)) 0 in
      let long : length z ≡ lent_bytes - (block_bytes + n) = length-replicate {A = ℕ} (lent_bytes - (block_bytes + n)) 0 in
      let m : length z ≡ block_bytes - n = omega arith in
      let w : lent_bytes - (block_bytes + n) ≡ block_bytes - n = omega arith in
      sets_same lent (block_bytes + n) z (omega arith)
      (ap (λ (j : ℕ). take j (drop (block_bytes + n) lent)) m
      ∙ ap (take (block_bytes - n)) (sym (drop-drop n block_bytes lent))
      ∙ sym (drop-take n block_bytes (drop block_bytes lent))
      ∙ unused ∙ ap (λ (j : ℕ). replicate j 0) (sym w))

  behind_kept : drop (block_bytes + n) lent ≡ replicate (block_bytes - n) 0 ++ drop lent_bytes lent
  behind_kept =
      let next : drop block_bytes lent ≡ part_in lent ++ drop lent_bytes lent =
      sym (take-append-drop block_bytes (drop block_bytes lent)) ∙ ap (λ (l : List ℕ). part_in lent ++ l) (drop-drop block_bytes block_bytes lent) in
      sym (drop-drop n block_bytes lent) ∙ ap (drop n) next ∙ drop-append-le n (part_in lent) (drop lent_bytes lent) (omega (arith, part_long lent h))
      ∙ ap (λ (l : List ℕ). l ++ drop lent_bytes lent) unused

  -- more is kept
  pub more_kept : (s : List ℕ) → n + length s ≤ block_bytes → sets lent (block_bytes + n) s ≡ lent_of (zeroth_in lent) (kept ++ s) lent
  more_kept s room =
      let front : take (block_bytes + n) lent ≡ zeroth_in lent ++ kept =
      take-add block_bytes n lent ∙ ap (λ (l : List ℕ). zeroth_in lent ++ l) (sym (take-take n block_bytes (drop block_bytes lent) k)) in
      let zeros : List ℕ = replicate (block_bytes - n) 0 in
      let long : length zeros ≡ block_bytes - n = length-replicate {A = ℕ} (block_bytes - n) 0 in
      let left : block_bytes - n - length s ≡ block_bytes - length (kept ++ s) = omega (arith, length-append kept s, kept_long) in
      let back : drop (block_bytes + n + length s) lent ≡ replicate (block_bytes - length (kept ++ s)) 0 ++ drop lent_bytes lent =
      sym (drop-drop (length s) (block_bytes + n) lent) ∙ ap (drop (length s)) behind_kept ∙ drop-append-le (length s) zeros (drop lent_bytes lent) (omega arith)
      ∙ ap (λ (l : List ℕ). l ++ drop lent_bytes lent) (drop-zeros (length s) (block_bytes - n) ∙ ap (λ (m : ℕ). replicate m 0) left) in
      sets-eq s lent (block_bytes + n) (omega arith)
      ∙ ap₂ (λ (a b : List ℕ). (a ++ s) ++ b) front back
      ∙ regroup (zeroth_in lent) kept s (replicate (block_bytes - length (kept ++ s)) 0) (drop lent_bytes lent)
