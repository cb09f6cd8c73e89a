-- The whole run, block by block. Assumes nothing.
use Rattle.std.specs.Prelude.{Result, Ok}
use mathlib.Core.Path.{◌≡◌, refl, ap, ◌∙◌}
use mathlib.Core.List.{List, [], ◌∷◌}
use Prim.Native.Nat.{ℕ, suc}
use Rattle.answers.specs.Refusals.{number_of}
use Rattle.answers.specs.declared.Refusal.{Refusal}
use Rattle.format.specs.declared.Form.{Form}
use Rattle.trace.specs.Reading.{block_of}
use Rattle.trace.specs.declared.Block.{Block}
use Rattle.trace.specs.declared.Block.TheVariants as read
use Rattle.table.specs.Lines.{head_bytes, refused_line}
use Rattle.walk.specs.Blocks.{blocks_of}
use Rattle.walk.specs.Programs.{Printed, both, to_output, Run as Runs, turned, onward, walk, walked, closed, printed_by}
use Rattle.walk.proofs.Walks.{closed_goes, closed_ends}
use Rattle.walk.specs.Steps.{Next, goes, refuses}
use Rattle.mixed.specs.declared.Line.{Line}
use Rattle.mixed.specs.Lines.{by_value}
use Rattle.mixed.specs.Blocks.{next_of}
use Rattle.mixed.specs.Rows.{label_of}
use Rattle.mixed.specs.Tables.{Kept, begun_by, taken, ecnstreams, printed}

-- ---- from block i on

-- what is printed from block i on
abbrev pub rest : ℕ → List (List ℕ) → Kept → Printed
rest i bs k = closed ecnstreams (walk ecnstreams i bs k)

abbrev pub with : Kept → List Line → Kept
with k ls = record { form = k.form; label = k.label; lines = ls }

module _ (i : ℕ) (b : List ℕ) (bs : List (List ℕ)) (k : Kept) where
  more : Kept → Runs Kept
  more = walk ecnstreams (suc i) bs

  by_next : {next : Next (List Line)} → next_of by_value k.form b k.lines ≡ next → rest i (b ∷ bs) k ≡ closed ecnstreams (onward (turned i (taken k next)) more)
  unfolding walk more
  by_next e = ap (λ (n : Next (List Line)). closed ecnstreams (onward (turned i (taken k n)) (walk ecnstreams (suc i) bs))) e

  pub rest_ends : {refusal : Refusal} → next_of by_value k.form b k.lines ≡ refuses refusal → rest i (b ∷ bs) k ≡ to_output (refused_line (number_of refusal) i)
  unfolding closed
  rest_ends {refusal} e = by_next e ∙ closed_ends ecnstreams (turned i (taken k (refuses refusal))) more (record { refusal = refusal; block = i }) refl

  pub rest_goes : {ls : List Line} → next_of by_value k.form b k.lines ≡ goes ls → rest i (b ∷ bs) k ≡ rest (suc i) bs (with k ls)
  unfolding more
  rest_goes {ls} e = by_next e ∙ closed_goes ecnstreams (turned i (taken k (goes ls))) more refl

-- ---- from block 0 on

-- what is printed by what block 0 is
pub printed_by_lem : (trace : List ℕ) (r : Result Block Refusal) → block_of (blocks_of trace).zeroth ≡ r
    → printed trace ≡ closed ecnstreams (onward (turned 0 (begun_by (blocks_of trace).zeroth r)) (walk ecnstreams 1 (blocks_of trace).others))
unfolding printed printed_by walked
printed_by_lem trace r e = ap (λ (r : Result Block Refusal). closed ecnstreams (onward (turned 0 (begun_by (blocks_of trace).zeroth r)) (walk ecnstreams 1 (blocks_of trace).others))) e

-- the state that a label starts
abbrev pub begun : List ℕ → Form → ℕ → Kept
begun zeroth form n = record { form = form; label = label_of (record { form = form; length = n; held = 0 }) zeroth; lines = [] }

pub printed_started : (trace : List ℕ) (form : Form) (n ssrc : ℕ) → block_of (blocks_of trace).zeroth ≡ Ok (read.Label form n ssrc)
    → printed trace ≡ both (to_output head_bytes) (rest 1 (blocks_of trace).others (begun (blocks_of trace).zeroth form n))
printed_started trace form n ssrc e =
    printed_by_lem trace (Ok (read.Label form n ssrc)) e
    ∙ closed_goes ecnstreams (turned 0 (begun_by (blocks_of trace).zeroth (Ok (read.Label form n ssrc)))) (walk ecnstreams 1 (blocks_of trace).others) refl
