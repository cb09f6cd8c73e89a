-- What the blocks that a feed completes do, block 0 among them. Assumes nothing.
use Rattle.std.specs.Prelude.{Option, Some, None, Ok, Err}
use mathlib.Core.Path.{◌≡◌, refl, sym, ap, ap₂, ◌∙◌, subst⁻¹}
use mathlib.Core.List.{List, [], ◌∷◌, append-nil}
use Prim.Native.Nat.{ℕ, suc, ◌+◌, ◌*◌, ◌≤◌}
use native.Mathlib.Omega.{arith}
use lib.ListN.{length, drop, length-append, length-drop}
use lib.Seq.{sets, take_all}
use Rattle.answers.specs.declared.Refusal.{Refusal}
use Rattle.answers.proofs.Stores.{sets-append}
use Rattle.format.specs.Blocks.{block_bytes}
use Rattle.walk.specs.Programs.{nothing, Turn}
use Rattle.walk.specs.Pieces.{whole_in}
use Rattle.walk.specs.Fitting.{Took, none_taken, one_more, front}
use Rattle.walk.proofs.Fits.{front_few}
use Rattle.walk.proofs.Pieces.{whole_first, whole_none, whole_many, wholes_fit}
use Rattle.convert.specs.declared.Run.{Run}
use Rattle.convert.specs.declared.feed_passes.Passed.{Passed}
use Rattle.convert.specs.Runs.{start_of}
use Rattle.convert.specs.Tables.{Kept, ecntable}
use Rattle.convert.specs.Feeds.{labelled, feeding, through}
use Rattle.convert.specs.Passes.{PassedBy, Passes}
use Rattle.convert.proofs.Fitted.{kept}
use Rattle.convert.proofs.Passing.{through_by}

-- ---- after block 0 they are ecntable's

pub through_later : (i : ℕ) (bs : List (List ℕ)) (k : Kept) → through feeding (suc i) bs k ≡ through ecntable (suc i) bs k
unfolding front
through_later i [] k = refl
through_later i (b ∷ bs) k =
    let t = ecntable.step (suc i) k b in
    ap (one_more t t.refusal) (through_later (suc i) bs t.state)

-- a block of its own is one block
pub one_whole : (b : List ℕ) → length b ≡ block_bytes → whole_in b ≡ b ∷ []
one_whole b e =
    whole_first b (omega arith)
    ∙ ap₂ (λ (x : List ℕ) (xs : List (List ℕ)). x ∷ xs) (take_all block_bytes b (omega arith))
    (whole_none (drop block_bytes b) (omega (arith, length-drop block_bytes b)))

-- no more is taken than a piece has
pub taken_few : (i : ℕ) (piece : List ℕ) (k : Kept) → block_bytes * (through ecntable i (whole_in piece) k).taken ≤ length piece
taken_few i piece k = omega (arith, front_few ecntable i (length (whole_in piece)) (whole_in piece) k, whole_many piece, wholes_fit piece)

-- ---- block 0

module _ (k : Kept) (b : List ℕ) (bs : List (List ℕ)) where
  pub label_goes : {run : Run} → start_of b ≡ Ok run
      → through feeding 0 (b ∷ bs) k ≡ one_more (record { state = kept run b; printed = nothing; refusal = None }) None (through ecntable 1 bs (kept run b))
  label_goes {run} e =
      through_by feeding 0 b bs k (record { state = kept run b; printed = nothing; refusal = None }) (ap (labelled k b) e)
      ∙ ap (one_more (record { state = kept run b; printed = nothing; refusal = None }) None) (through_later 0 bs (kept run b))

  pub label_refused : {refusal : Refusal} → start_of b ≡ Err refusal
      → through feeding 0 (b ∷ bs) k ≡ record { state = k; taken = 0; printed = nothing; refusal = Some refusal }
  label_refused {refusal} e = through_by feeding 0 b bs k (record { state = k; printed = nothing; refusal = Some refusal }) (ap (labelled k b) e)

pub passes_label : (k : Kept) {all w : Took Kept} {s : Kept} {old out : List ℕ} {bytes used : ℕ} {e : Option Refusal} {run : Run}
    → all ≡ one_more (record { state = k; printed = nothing; refusal = None }) None w → PassedBy w s bytes 0 used e old out → s.run ≡ run
    → Passes all old (record { run = run; bytes = 512 + bytes; used = used; ended = e }) out
passes_label k {all} {w} {s} {old} {out} {bytes} {used} {e} {run} is p r =
    subst⁻¹ (λ (a : Took Kept). Passes a old (record { run = run; bytes = 512 + bytes; used = used; ended = e }) out) is
    (record {
      run = ap (λ (x : Kept). x.run) p.state ∙ r;
      taken = omega (arith, p.taken);
      refusal = p.refusal;
      long = omega (arith, p.long);
      few = omega (arith, p.few, p.long);
      stores = p.stores;
    })

pub passes_no_label : (k : Kept) {all : Took Kept} {refusal : Refusal} (old : List ℕ) → all ≡ record { state = k; taken = 0; printed = nothing; refusal = Some refusal }
    → Passes all old (record { run = k.run; bytes = 0; used = 0; ended = Some refusal }) old
passes_no_label k {all} {refusal} old is =
    subst⁻¹ (λ (a : Took Kept). Passes a old (record { run = k.run; bytes = 0; used = 0; ended = Some refusal }) old) is
    (record { run = refl; taken = omega arith; refusal = refl; long = refl; few = omega arith; stores = λ h. refl })

-- ---- a later block, and those after it

pub passed_run : {all : Took Kept} {s : Kept} {old out : List ℕ} {r : Passed} → PassedBy all s r.bytes 0 r.used r.ended old out → s.run ≡ r.run → Passes all old r out
passed_run {all} {s} {old} {out} {r} p e = record {
  run = ap (λ (x : Kept). x.run) p.state ∙ e;
  taken = p.taken;
  refusal = p.refusal;
  long = omega (arith, p.long);
  few = omega (arith, p.few, p.long);
  stores = p.stores;
}

module _ (i : ℕ) (b : List ℕ) (bs : List (List ℕ)) (k : Kept) where
  abbrev turn : Turn Kept
  turn = ecntable.step (suc i) k b

  abbrev pub one : Took Kept
  one = through ecntable (suc i) (b ∷ []) k

  -- the block alone, and with those after it, by its refusal
  one_by : (o : Option Refusal) → turn.refusal ≡ o → one ≡ one_more turn o (none_taken turn.state)
  unfolding front
  one_by o e = ap (λ (o : Option Refusal). one_more turn o (none_taken turn.state)) e

  all_by : (o : Option Refusal) → turn.refusal ≡ o → through feeding (suc i) (b ∷ bs) k ≡ one_more turn o (through ecntable (suc (suc i)) bs turn.state)
  unfolding front
  all_by o e = ap₂ (λ (o : Option Refusal) (w : Took Kept). one_more turn o w) e (through_later (suc i) bs turn.state)

  -- a refused one ends the pass
  pub all_refused : {refusal : Refusal} → one.refusal ≡ Some refusal → through feeding (suc i) (b ∷ bs) k ≡ one
  all_refused {refusal} e = go turn.refusal refl
    where
      go : (o : Option Refusal) → turn.refusal ≡ o → through feeding (suc i) (b ∷ bs) k ≡ one
      go None q = let w : None ≡ Some refusal = ap (λ (w : Took Kept). w.refusal) (sym (one_by None q)) ∙ e in let z : ◌≡◌ {A = ℕ} 0 1 = cc in absurd (omega arith)
      go (Some r) q = all_by (Some r) q ∙ sym (one_by (Some r) q)

  record OneTaken : Type 0 where
    is : one ≡ one_more turn None (none_taken turn.state)
    all : through feeding (suc i) (b ∷ bs) k ≡ one_more turn None (through ecntable (suc (suc i)) bs turn.state)

  one_taken : one.refusal ≡ None → OneTaken
  one_taken e = go turn.refusal refl
    where
      go : (o : Option Refusal) → turn.refusal ≡ o → OneTaken
      go None q = record { is = one_by None q; all = all_by None q }
      go (Some r) q = let w : Some r ≡ None = ap (λ (w : Took Kept). w.refusal) (sym (one_by (Some r) q)) ∙ e in let z : ◌≡◌ {A = ℕ} 0 1 = cc in absurd (omega arith)

  -- one pass after another
  module _ {m s : Kept} {old mid out : List ℕ} {first last used bytes : ℕ} {e : Option Refusal} {run : Run} where
    pub passes_both : PassedBy one m first 0 used None old mid → PassedBy (through ecntable (suc (suc i)) bs m) s bytes used last e mid out → length mid ≡ length old → s.run ≡ run
        → Passes (through feeding (suc i) (b ∷ bs) k) old (record { run = run; bytes = 512 + bytes; used = last; ended = e }) out
    passes_both p q size r =
        let t = one_taken p.refusal in
        let state : turn.state ≡ m = ap (λ (w : Took Kept). w.state) (sym t.is) ∙ p.state in
        let w = through ecntable (suc (suc i)) bs m in
        let all : through feeding (suc i) (b ∷ bs) k ≡ one_more turn None w = t.all ∙ ap (λ (x : Kept). one_more turn None (through ecntable (suc (suc i)) bs x)) state in
        let rows : one.printed.out ≡ turn.printed.out = ap (λ (w : Took Kept). w.printed.out) t.is ∙ append-nil turn.printed.out in
        let long : length turn.printed.out ≡ used = omega (arith, ap length rows, p.long) in
        let place : used ≡ 0 + length turn.printed.out = omega (arith, long) in
        let one_block : one.taken ≡ 1 = ap (λ (w : Took Kept). w.taken) t.is in
        subst⁻¹ (λ (a : Took Kept). Passes a old (record { run = run; bytes = 512 + bytes; used = last; ended = e }) out) all
        (record {
          run = ap (λ (x : Kept). x.run) q.state ∙ r;
          taken = omega (arith, q.taken);
          refusal = q.refusal;
          long = length-append turn.printed.out w.printed.out ∙ omega (arith, q.long, long);
          few = omega (arith, length-append turn.printed.out w.printed.out, q.few, q.long, p.few, one_block, long);
          stores = λ h.
              let first_fits : used ≤ length old = omega (arith, q.long) in
              q.stores (omega arith)
              ∙ ap (λ (l : List ℕ). sets l used w.printed.out) (p.stores first_fits ∙ ap (sets old 0) rows)
              ∙ ap (λ (n : ℕ). sets (sets old 0 turn.printed.out) n w.printed.out) place
              ∙ sym (sets-append old 0 turn.printed.out w.printed.out);
        })
