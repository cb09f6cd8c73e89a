-- Lists of a trace's own blocks: put together, cut again, and copied by a program. Assumes nothing.
use Rattle.std.specs.Prelude.{Option, Some, None, Ok}
use mathlib.Core.Path.{◌≡◌, refl, sym, ap, ◌∙◌}
use mathlib.Core.List.{List, [], ◌∷◌, ◌++◌, append_assoc}
use Prim.Native.Nat.{ℕ, zero, suc, ◌+◌, ◌*◌, ◌≤◌}
use native.Mathlib.Omega.{arith}
use native.Mathlib.Decide.{ℕ_discrete}
use lib.ListN.{length, take, drop, length-append, length-drop}
use lib.Seq.{take_at, drop_at, take-add}
use Rattle.answers.specs.declared.Refusal.{Refusal}
use Rattle.format.specs.Blocks.{block_bytes}
use Rattle.format.specs.declared.Form.{Form}
use Rattle.trace.specs.Places.{zeroth_of}
use Rattle.trace.proofs.Placed.{zeroth_short, later_short}
use Rattle.walk.specs.Blocks.{cut, blocks_of, joined}
use Rattle.walk.specs.Programs.{to_output, both, Turn, Program}
use Rattle.walk.specs.Pieces.{whole_in}
use Rattle.walk.specs.Fitting.{Took, one_more, front}
use Rattle.walk.proofs.Cuts.{Each, cut_joined, joined_long}
use Rattle.walk.proofs.Pieces.{whole_first}
use Rattle.copies.specs.Fronts.{fault_of, Sound, sound_by, sound_in}
use Rattle.copies.specs.Theorems.{AllOwn, CopyIsCut}
use Rattle.copies.proofs.Fronts.{fault_by_lem}

-- ---- a trace's own block is whole

module _ (form : Form) (ssrc : ℕ) where
  pub own_long : (b : List ℕ) → fault_of form ssrc b ≡ None → length b ≡ block_bytes
  own_long b e = go (ℕ_discrete (length b) block_bytes)
    where
      go : Dec (length b ≡ block_bytes) → length b ≡ block_bytes
      go (yes h) = h
      go (no h) =
          let other = fault_by_lem form ssrc b (later_short form ssrc b h) in
          let z : ◌≡◌ {A = ℕ} 0 1 = cc in
          absurd (omega arith)

  pub all_long : (bs : List (List ℕ)) → AllOwn form ssrc bs → Each (λ b. length b ≡ block_bytes) bs
  all_long [] h = tt
  all_long (b ∷ bs) h = (own_long b h.0, all_long bs h.1)

-- and so is a label
pub label_long : (b : List ℕ) {form : Form} {n ssrc : ℕ} → zeroth_of b ≡ Ok (record { form = form; length = n; ssrc = ssrc }) → length b ≡ block_bytes
label_long b {form} {n} {ssrc} e = go (ℕ_discrete (length b) block_bytes)
  where
    go : Dec (length b ≡ block_bytes) → length b ≡ block_bytes
    go (yes h) = h
    go (no h) =
        let other = zeroth_short b h in
        let z : ◌≡◌ {A = ℕ} 0 1 = cc in
        absurd (omega arith)

-- ---- block 0 and such blocks put together

pub copy_is_cut : CopyIsCut
unfolding blocks_of
copy_is_cut form ssrc zeroth bs long own =
    let each = all_long form ssrc bs own in
    let all = zeroth ++ joined bs in
    let first = take_at zeroth (joined bs) block_bytes long in
    let few : length bs ≤ length all = omega (arith, length-append zeroth (joined bs), joined_long bs each) in
    let others = ap (cut (length all)) (drop_at zeroth (joined bs) block_bytes long) ∙ cut_joined (length all) bs each few in
    λ i. record { zeroth = first i; others = others i }

-- the first whole blocks of a piece put together are its first bytes
pub first_bytes : (k : ℕ) (s : List ℕ) → block_bytes * k ≤ length s → joined (take k (whole_in s)) ≡ take (block_bytes * k) s
first_bytes zero s h = refl
first_bytes (suc k) s h =
    let e : block_bytes + block_bytes * k ≡ block_bytes * suc k = omega arith in
    ap (λ (bs : List (List ℕ)). joined (take (suc k) bs)) (whole_first s (omega arith))
    ∙ ap (λ (rest : List ℕ). take block_bytes s ++ rest) (first_bytes k (drop block_bytes s) (omega (arith, length-drop block_bytes s)))
    ∙ sym (take-add block_bytes (block_bytes * k) s)
    ∙ ap (λ (n : ℕ). take n s) e

-- ---- a program that copies each of a trace's own blocks, and keeps its state

-- what is taken after blocks that were copied
abbrev pub behind : {S : Type 0} → List ℕ → ℕ → Took S → Took S
behind bytes many w = record { state = w.state; taken = many + w.taken; printed = both (to_output bytes) w.printed; refusal = w.refusal }

module _ {S : Type 0} (p : Program S) (s : S) (form : Form) (ssrc : ℕ)
    (copies : (i : ℕ) (b : List ℕ) → fault_of form ssrc b ≡ None → p.step i s b ≡ record { state = s; printed = to_output b; refusal = None }) where
  none_copied : (i more : ℕ) (bs : List (List ℕ)) → front p i (0 + more) bs s ≡ behind [] 0 (front p (i + 0) more bs s)
  none_copied i more bs =
      let w = front p i more bs s in
      let same : w.taken ≡ 0 + w.taken = omega arith in
      let few : 0 + more ≡ more = omega arith in
      let here : i ≡ i + 0 = omega arith in
      ap (λ (n : ℕ). front p i n bs s) few
      ∙ (λ j. record { state = w.state; taken = same j; printed = w.printed; refusal = w.refusal })
      ∙ ap (λ (n : ℕ). behind [] 0 (front p n more bs s)) here

  one_copied : (i more : ℕ) (b : List ℕ) (bs : List (List ℕ)) (bytes : List ℕ) (many : ℕ) (w : Took S) → fault_of form ssrc b ≡ None
      → front p (suc i) (many + more) bs s ≡ behind bytes many w → front p i (suc many + more) (b ∷ bs) s ≡ behind (b ++ bytes) (suc many) w
  unfolding front
  one_copied i more b bs bytes many w own back =
      let few : suc many + more ≡ suc (many + more) = omega arith in
      let same : suc (many + w.taken) ≡ suc many + w.taken = omega arith in
      ap (λ (n : ℕ). front p i n (b ∷ bs) s) few
      ∙ ap (λ (t : Turn S). one_more t t.refusal (front p (suc i) (many + more) bs t.state)) (copies i b own)
      ∙ ap (one_more (record { state = s; printed = to_output b; refusal = None }) None) back
      ∙ (λ j. record {
        state = w.state;
        taken = same j;
        printed = record { out = sym (append_assoc b bytes w.printed.out) j; err = w.printed.err };
        refusal = w.refusal;
      })

  pub front_copies : (i more : ℕ) (bs : List (List ℕ))
      → let f = sound_in form ssrc bs in
      front p i (f.many + more) bs s ≡ behind (joined (take f.many bs)) f.many (front p (i + f.many) more (drop f.many bs) s)
  unfolding sound_in
  front_copies i more [] = none_copied i more []
  front_copies i more (b ∷ bs) = go (fault_of form ssrc b) refl (front_copies (suc i) more bs)
    where
      rest : Sound
      rest = sound_in form ssrc bs

      go : (o : Option Refusal) → fault_of form ssrc b ≡ o
          → front p (suc i) (rest.many + more) bs s ≡ behind (joined (take rest.many bs)) rest.many (front p (suc i + rest.many) more (drop rest.many bs) s)
          → let f = sound_by o rest in
          front p i (f.many + more) (b ∷ bs) s ≡ behind (joined (take f.many (b ∷ bs))) f.many (front p (i + f.many) more (drop f.many (b ∷ bs)) s)
      go None own back =
          let here : suc i + rest.many ≡ i + suc rest.many = omega arith in
          one_copied i more b bs (joined (take rest.many bs)) rest.many (front p (suc i + rest.many) more (drop rest.many bs) s) own back
          ∙ ap (λ (n : ℕ). behind (b ++ joined (take rest.many bs)) (suc rest.many) (front p n more (drop rest.many bs) s)) here
      go (Some refusal) own back = none_copied i more (b ∷ bs)
