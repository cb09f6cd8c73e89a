-- The calls over pieces, case by case. Assumes nothing.
use Rattle.std.specs.Prelude.{Option, Some, None, Result, Ok, Err}
use Rattle.answers.specs.declared.Unwritten.{Unwritten}
use mathlib.Core.Path.{◌≡◌, refl, sym, ap, ◌∙◌}
use mathlib.Core.List.{List, [], ◌∷◌}
use Prim.Native.Nat.{ℕ, ◌/◌, ◌^◌, ◌≤◌, ◌<◌}
use native.Mathlib.Omega.{arith}
use lib.ListN.{length}
use Rattle.answers.specs.Refusals.{number_of}
use Rattle.answers.specs.Writers.{Wrote}
use Rattle.answers.specs.declared.Refusal.{Refusal}
use Rattle.answers.specs.declared.Refusal.TheVariants.{Incomplete}
use Rattle.answers.proofs.Stores.{wrote_all, wrote_refused}
use Rattle.format.specs.Blocks.{block_bytes}
use Rattle.table.specs.Lines.{refused_line}
use Rattle.walk.specs.Pieces.{whole_in}
use Rattle.walk.specs.Fitting.{Took, fitting}
use Rattle.walk.specs.Machines.{fitting_by, ending_by}
use Rattle.walk.specs.Endings.{number_after}
use Rattle.walk.specs.declared.Closed.{Closed}
use Rattle.walk.proofs.Standing.{ended_again}
use Rattle.sources.specs.declared.runs.Run.{Run}
use Rattle.sources.specs.declared.runs.Step.{Step}
use Rattle.sources.specs.declared.pieces.Progress.{Progress}
use Rattle.sources.specs.declared.pieces.Taken.{Taken}
use Rattle.sources.specs.Runs.{refusal_in, start_of}
use Rattle.sources.specs.Rows.{lines_of, label_of, rows_of, rows_fault}
use Rattle.sources.specs.Streams.{Kept, begun, closing, ecnstreams}
use Rattle.sources.specs.Pieces.{begin_by, begin_of, not_begun, begun_in, standing, took_of, piece_fault, TakenBy, Takes, TakesWhole, end_of, end_fault, Ends}

-- ---- block 0

module _ (b : List ℕ) (r : Step) (e : start_of b ≡ r) where
  begin_by_lem : begin_of b ≡ begin_by (begun b r)
  unfolding begin_of
  begin_by_lem = ap (λ (r : Step). begin_by (begun b r)) e

  -- by the refusal in the answer
  abbrev begun_with : Option Refusal → Progress
  begun_with None = record { run = r.run; block = 1; ended = None }
  begun_with (Some refusal) = record { run = r.run; block = 0; ended = Some refusal }

  pub begin_is : {o : Option Refusal} → refusal_in r.answer ≡ o → begin_of b ≡ begun_with o
  begin_is e = begin_by_lem ∙ go r.answer ∙ ap begun_with e
    where
      go : (w : Result ℕ Unwritten) → begin_by (begun b (record { answer = w; run = r.run })) ≡ begun_with (refusal_in w)
      go (Ok n) = refl
      go (Err (Unwritten.Room n)) = refl
      go (Err (Unwritten.Refused refusal)) = refl

pub begun_none : (b : List ℕ) {w : Result ℕ Unwritten} {why : Unwritten} → w ≡ Err why → begun_in b w ≡ not_begun
begun_none b e = ap (begun_in b) e

-- ---- a piece

pub took_going : (p : Progress) (zeroth piece : List ℕ) (room : ℕ) → p.ended ≡ None
    → took_of p zeroth piece room ≡ fitting ecnstreams p.block (whole_in piece) (record { run = p.run; zeroth = zeroth }) room
unfolding took_of
took_going p zeroth piece room e = ap (λ (e : Option Refusal). fitting_by ecnstreams (standing p zeroth) e piece room) e

-- nothing is written
wrote_none : (old : List ℕ) → Wrote None [] old (Ok 0) old
wrote_none old = wrote_all [] old refl (omega arith) refl refl

module _ (p : Progress) (zeroth piece old : List ℕ) where
  took_by_lem : {e : Option Refusal} → p.ended ≡ e → took_of p zeroth piece (length old) ≡ fitting_by ecnstreams (standing p zeroth) e piece (length old)
  unfolding took_of
  took_by_lem e = ap (λ (e : Option Refusal). fitting_by ecnstreams (standing p zeroth) e piece (length old)) e

  takes_by : {fault : Option Refusal} {w : Took Kept} {r : Taken} {out : List ℕ} → piece_fault p zeroth p.ended ≡ fault → took_of p zeroth piece (length old) ≡ w
      → Wrote fault [] old r.answer out → TakenBy p w fault r → Takes p zeroth piece old r out
  takes_by f e w t = record { wrote = rw f w; taken = rw (f, e) t }

  -- after a refusal
  pub takes_over : {refusal : Refusal} → p.block < 2 ^ 64 → p.ended ≡ Some refusal → Takes p zeroth piece old (record { answer = Ok 0; bytes = 0; progress = p }) old
  takes_over {refusal} small e =
      let same : p.block ≡ number_after p.block 0 = omega arith in
      takes_by (ap (piece_fault p zeroth) e) (took_by_lem e) (wrote_none old) (omega arith, λ i. record { run = p.run; block = same i; ended = e i })

  module _ (going : p.ended ≡ None) where
    pub takes_refused : {refusal : Refusal} → rows_fault p.run zeroth ≡ Some refusal → Takes p zeroth piece old (record { answer = Err (Unwritten.Refused refusal); bytes = 0; progress = p }) old
    takes_refused e = takes_by (ap (piece_fault p zeroth) going ∙ e) (took_by_lem going) (wrote_refused [] old refl) (refl, refl)

    pub takes_whole : rows_fault p.run zeroth ≡ None → {run : Run} {bytes block : ℕ} {e : Option Refusal}
        → TakesWhole p.run piece run bytes e → block ≡ number_after p.block (bytes / block_bytes)
        → Takes p zeroth piece old (record { answer = Ok 0; bytes = bytes; progress = record { run = run; block = block; ended = e } }) old
    takes_whole good {run} {bytes} {block} {e} f b =
        let s : Kept = record { run = p.run; zeroth = zeroth } in
        let w = fitting ecnstreams p.block (whole_in piece) s (length old) in
        let r = f p.block zeroth old in
        let many : bytes / block_bytes ≡ w.taken = omega (arith, r.taken) in
        let number : block ≡ number_after p.block w.taken = b ∙ ap (number_after p.block) many in
        let how : e ≡ w.refusal = sym r.refusal in
        let state : run ≡ w.state.run = sym (ap (λ (k : Kept). k.run) r.state) in
        takes_by (ap (piece_fault p zeroth) going ∙ good) (took_by_lem going) (wrote_none old) (sym r.taken, λ i. record { run = state i; block = number i; ended = how i })

-- ---- the end

module _ (p : Progress) (zeroth rest : List ℕ) where
  abbrev k : Kept
  k = record { run = p.run; zeroth = zeroth }

  end_by_lem : {e : Option Refusal} → p.ended ≡ e → end_of p zeroth rest ≡ closing k (ending_by p.block e rest)
  unfolding end_of
  end_by_lem e = ap (λ (e : Option Refusal). closing k (ending_by p.block e rest)) e

  fault_by_lem : {e : Option Refusal} → p.ended ≡ e → end_fault p zeroth p.ended rest ≡ end_fault p zeroth e rest
  fault_by_lem e = ap (λ (e : Option Refusal). end_fault p zeroth e rest) e

  told_none : (err : List ℕ) (r : Closed) → r.err ≡ Ok 0 → Wrote None [] err r.err err
  told_none err r quiet = rw quiet (wrote_none err)

  module _ (out err : List ℕ) {now : List ℕ} {r : Closed} (quiet : r.err ≡ Ok 0) where
    pub ends_refused : {refusal : Refusal} → p.ended ≡ Some refusal → Wrote None (refused_line (number_of refusal) p.block) out r.out now → Ends p zeroth rest out err r now err
    ends_refused e w = record { printed = rw (fault_by_lem e, end_by_lem e) w; told = told_none err r quiet }

    pub ends_part : p.ended ≡ None → 1 ≤ length rest → Wrote None (refused_line (number_of Incomplete) p.block) out r.out now → Ends p zeroth rest out err r now err
    ends_part e h w = record { printed = rw (fault_by_lem e, end_by_lem e) (go rest h); told = told_none err r quiet }
      where
        go : (rest : List ℕ) → 1 ≤ length rest → Wrote (end_fault p zeroth None rest) (closing k (ending_by p.block None rest)).out out r.out now
        go [] h = absurd (omega arith)
        go (c ∷ rest) h = w

    pub ends_rows : p.ended ≡ None → length rest ≡ 0 → Wrote (rows_fault p.run zeroth) (rows_of (label_of p.run zeroth) (lines_of p.run)) out r.out now → Ends p zeroth rest out err r now err
    ends_rows e h w = record { printed = rw (fault_by_lem e, end_by_lem e) (go rest h); told = told_none err r quiet }
      where
        go : (rest : List ℕ) → length rest ≡ 0 → Wrote (end_fault p zeroth None rest) (closing k (ending_by p.block None rest)).out out r.out now
        go [] h = w
        go (c ∷ rest) h = absurd (omega arith)
