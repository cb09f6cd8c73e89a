-- Fields in the middle of a packet read back. Assumes nothing.
use mathlib.Core.Path.{◌≡◌, sym, ap, ◌∙◌}
use mathlib.Core.List.{List, [], ◌++◌}
use Prim.Native.Nat.{ℕ, ◌+◌, ◌^◌, ◌<◌}
use native.Mathlib.Nat.{add-zero, mod-eq_of_lt}
use native.Mathlib.Omega.{arith}
use lib.ListN.{length}
use Rattle.numbers.specs.BigEndian.{word, bytes}
use Rattle.numbers.proofs.BigEndian.{word_left, word_right, word_bytes, length-bytes}
use Rattle.numbers.proofs.Integers.{modulo_lt}
use Rattle.source.specs.declared.Source.{Source}
use Rattle.source.specs.Record.{lost}
use Rattle.format.specs.declared.Counts.{Counts}
use Rattle.report.specs.Carried.{counts_of}
use Rattle.report.specs.Reports.{counts_bytes}
use Rattle.rtcp.specs.EcnReports.{counts}

-- a number of k bytes between p and q
pub field : (k n : ℕ) (p q : List ℕ) → n < 256 ^ k → word k (p ++ (bytes k n ++ q)) (length p) ≡ n
field k n p q h =
    ap (word k (p ++ (bytes k n ++ q))) (sym (add-zero (length p))) ∙ word_right p (bytes k n ++ q) 0 k
    ∙ word_left (bytes k n) q 0 k (omega (arith, length-bytes k n)) ∙ word_bytes k n ∙ mod-eq_of_lt h

-- every counter fits its field
pub record Fits (c : Counts) : Type 0 where
  pub ect0 : c.ect0 < 2 ^ 32
  pub ect1 : c.ect1 < 2 ^ 32
  pub ce : c.ce < 2 ^ 16
  pub notect : c.notect < 2 ^ 16
  pub lost : c.lost < 2 ^ 16
  pub duplicates : c.duplicates < 2 ^ 16

pub counts_fit_lem : (s : Source) → Fits (counts_of s)
unfolding counts_of
counts_fit_lem s = record {
  ect0 = omega arith;
  ect1 = omega arith;
  ce = omega arith;
  notect = omega arith;
  lost = modulo_lt (2 ^ 16) (omega arith) (lost s);
  duplicates = omega arith;
}

-- the counters read back, at the front of q and between p and q
module _ (c : Counts) (f : Fits c) (q : List ℕ) where
  counts_here : counts (counts_bytes c ++ q) 0 ≡ c
  unfolding counts counts_bytes bytes
  counts_here =
      let e0 : List ℕ = bytes 4 c.ect0 in
      let e1 : List ℕ = bytes 4 c.ect1 in
      let ce : List ℕ = bytes 2 c.ce in
      let ne : List ℕ = bytes 2 c.notect in
      let lo : List ℕ = bytes 2 c.lost in
      let du : List ℕ = bytes 2 c.duplicates in
      λ i. record {
        ect0 = field 4 c.ect0 [] (e1 ++ ce ++ ne ++ lo ++ du ++ q) f.ect0 i;
        ect1 = field 4 c.ect1 e0 (ce ++ ne ++ lo ++ du ++ q) f.ect1 i;
        ce = field 2 c.ce (e0 ++ e1) (ne ++ lo ++ du ++ q) f.ce i;
        notect = field 2 c.notect (e0 ++ e1 ++ ce) (lo ++ du ++ q) f.notect i;
        lost = field 2 c.lost (e0 ++ e1 ++ ce ++ ne) (du ++ q) f.lost i;
        duplicates = field 2 c.duplicates (e0 ++ e1 ++ ce ++ ne ++ lo) q f.duplicates i;
      }

  pub counts_back : (p : List ℕ) → counts (p ++ (counts_bytes c ++ q)) (length p) ≡ c
  unfolding counts
  counts_back p =
      let at : (k i : ℕ) → word k (p ++ (counts_bytes c ++ q)) (length p + i) ≡ word k (counts_bytes c ++ q) i = λ k i. word_right p (counts_bytes c ++ q) i k in
      let first : word 4 (p ++ (counts_bytes c ++ q)) (length p) ≡ word 4 (counts_bytes c ++ q) 0 = ap (word 4 (p ++ (counts_bytes c ++ q))) (sym (add-zero (length p))) ∙ at 4 0 in
      (λ i. record {
        ect0 = first i;
        ect1 = at 4 4 i;
        ce = at 2 8 i;
        notect = at 2 10 i;
        lost = at 2 12 i;
        duplicates = at 2 14 i;
      })
      ∙ counts_here
