-- The words of a compound give the breaker's call for it. Assumes nothing.
use Rattle.std.specs.Prelude.{Option, Some, None}
use Rattle.rtcp.specs.declared.ReportBlock.{ReportBlock}
use Rattle.rtcp.specs.declared.Feedback.{Feedback}
use Rattle.format.specs.declared.Counts.{Counts}
use Rattle.between.specs.declared.calls.Kept.{Kept}
use mathlib.Core.Path.{◌≡◌, refl, ap, ◌∙◌}
use mathlib.Core.Bool.{Bool, true, false, cond}
use mathlib.Core.List.{List}
use Prim.Native.Nat.{ℕ}
use native.Mathlib.Omega.{arith}
use borrow.Author.Tests.{eq-eqb}
use lib.Dec.{eqb, leb}
use lib.ListN.{length, get_or}
use Rattle.rtcp.specs.declared.Compound.{Compound}
use Rattle.between.specs.PacketCalls.{kept_after, call_of, call_for}
use Rattle.lent.specs.BreakerWords.{flag}
use Rattle.lent.specs.CompoundWords.{report_words, feedback_words, summary_words, reporter_of, compound_words, report_of, feedback_of, summary_of, compound_of}
use Rattle.lent.specs.CompoundWords.{report_fits, feedback_fits, summary_fits, is_compound, loaded, typed_report, typed_feedback, typed_summary, SameCall, ReporterLast, some_compound, SomeTyped}
use Rattle.lent.proofs.Parts.{length-compound}

-- ---- which words are a compound's

pub held : (words : List ℕ) {c : Compound} → loaded words ≡ Some c → (is_compound words ≡ true) × (c ≡ compound_of words)
unfolding loaded
held words {c} e = go (is_compound words) refl e
  where
    go : (b : Bool) → is_compound words ≡ b → cond b (Some (compound_of words)) None ≡ Some c → (is_compound words ≡ true) × (c ≡ compound_of words)
    go true f e = (f, cc)
    go false f e = let z : ◌≡◌ {A = ℕ} 0 1 = cc in absurd (omega arith)

pub other : (words : List ℕ) → loaded words ≡ None → is_compound words ≡ false
unfolding loaded
other words e = go (is_compound words) e
  where
    go : (b : Bool) → cond b (Some (compound_of words)) None ≡ None → b ≡ false
    go true e = let z : ◌≡◌ {A = ℕ} 0 1 = cc in absurd (omega arith)
    go false e = refl

-- ---- the words of a compound

module _ (earlier : Option Kept) (b : Bool) where
  -- a compound of these parts
  abbrev made : Option ReportBlock → Option Feedback → Option Counts → Compound
  made r f s = record { report = r; feedback = f; summary = s; reporting = b }

  -- and what is seen of it in its words
  abbrev seen : List ℕ → Compound
  seen ws = made (report_of ws) (feedback_of ws) (summary_of ws)

  record Seen (r : Option ReportBlock) (f : Option Feedback) (s : Option Counts) : Type 0 where
    call : call_for (seen (compound_words (made r f s))) earlier ≡ call_for (made r f s) earlier
    report : report_fits (compound_words (made r f s)) ≡ typed_report r
    feedback : feedback_fits (compound_words (made r f s)) ≡ typed_feedback f
    summary : summary_fits (compound_words (made r f s)) ≡ typed_summary s
    last : get_or (compound_words (made r f s)) 23 0 ≡ flag b
    reporter : get_or (compound_words (made r f s)) 24 0 ≡ reporter_of r

  parts : (r : Option ReportBlock) (f : Option Feedback) (s : Option Counts) → Seen r f s
  unfolding compound_words report_words feedback_words summary_words reporter_of report_fits feedback_fits summary_fits call_of kept_after
  parts (Some r) (Some f) (Some s) = record { call = refl; report = refl; feedback = refl; summary = refl; last = refl; reporter = refl }
  parts (Some r) (Some f) None = record { call = refl; report = refl; feedback = refl; summary = refl; last = refl; reporter = refl }
  parts (Some r) None (Some s) = record { call = refl; report = refl; feedback = refl; summary = refl; last = refl; reporter = refl }
  parts (Some r) None None = record { call = refl; report = refl; feedback = refl; summary = refl; last = refl; reporter = refl }
  parts None (Some f) (Some s) = record { call = refl; report = refl; feedback = refl; summary = refl; last = refl; reporter = refl }
  parts None (Some f) None = record { call = refl; report = refl; feedback = refl; summary = refl; last = refl; reporter = refl }
  parts None None (Some s) = record { call = refl; report = refl; feedback = refl; summary = refl; last = refl; reporter = refl }
  parts None None None = record { call = refl; report = refl; feedback = refl; summary = refl; last = refl; reporter = refl }

flag_back : (b : Bool) → (eqb (flag b) 1 ≡ b) × (leb (flag b) 1 ≡ true)
flag_back true = (refl, refl)
flag_back false = (refl, refl)

pub same_call : SameCall
unfolding compound_of
same_call c earlier t =
    let ws = compound_words c in
    let p = parts earlier c.reporting c.report c.feedback c.summary in
    let last = ap (λ (n : ℕ). leb n 1) p.last ∙ (flag_back c.reporting).1 in
    let reporting : eqb (get_or ws 23 0) 1 ≡ c.reporting = ap (λ (n : ℕ). eqb n 1) p.last ∙ (flag_back c.reporting).0 in
    let fits : is_compound ws ≡ true = rw (eq-eqb (length ws) 25 (length-compound c), p.report ∙ t.report, p.feedback ∙ t.feedback, p.summary ∙ t.summary, last) in
    (fits, ap (λ (b : Bool). call_for (seen earlier b ws) earlier) reporting ∙ p.call)

pub reporter_last : ReporterLast
reporter_last c =
    let p = parts None c.reporting c.report c.feedback c.summary in
    record { words = length-compound c; reporting = p.last; reporter = p.reporter }

pub some_typed : SomeTyped
some_typed = record { report = refl; feedback = refl; summary = refl }

used : Unit {0}
used =
    let call = same_call some_compound None some_typed in
    let last = reporter_last some_compound in
    tt
