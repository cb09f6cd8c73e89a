-- Demand 3 for a caller from C, all of it. Assumes nothing.
use Rattle.std.specs.Prelude.{Option, Some, None, Result, Ok}
use Rattle.answers.specs.declared.Unwritten.{Unwritten}
use mathlib.Core.Path.{◌≡◌, refl, sym, ap, ap₂, ◌∙◌}
use mathlib.Core.Bool.{true}
use mathlib.Core.List.{List, []}
use Prim.Native.Nat.{ℕ}
use Rattle.answers.specs.Writers.{written, stored}
use Rattle.answers.specs.declared.Refusal.{Refusal}
use Rattle.source.specs.declared.Source.{Source}
use Rattle.source.specs.Record.{fresh_record, sound, wire_number, lost_answer}
use Rattle.source.proofs.Facts.{fresh_sound}
use Rattle.report.specs.Reports.{fault, feedback_bytes, summary_bytes}
use Rattle.table.specs.Lines.{row_fault, row_bytes}
use Rattle.lent.specs.SourceWords.{source_of, is_source, source_words, loaded}
use Rattle.lent.proofs.SourceLaws.{held, sound_back}
use Rattle.capi.specs.Codes.{length_code, refusal_code, Gives}
use Rattle.capi.specs.OneSource.{record_fault, lost_fault, lost_found}
use Rattle.demands.specs.Calls.{TruePacket, arrivals, run, Described}
use Rattle.demands.specs.Count.{count_from, count, lost_of}
use Rattle.demands.specs.Demand3.{Outcome}
use Rattle.demands.specs.Witnesses.{wrapped, reordered, text}
use Rattle.demands.proofs.Runs.{arrivals_marks, run_sound}
use Rattle.demands.proofs.Demand.{count_lost, demand3}
use Rattle.demands.proofs.Witnesses.{met}
use Rattle.callers.specs.FromC.{end_words, Demand3FromC}
use Rattle.callers.proofs.Callers.{chain_holds_count}

-- what a function gives, by equal refusals and equal bytes
pub gives_same : {A : Type 0} {code : Result ℕ Unwritten → A} {f g : Option Refusal} {new next old out : List ℕ} {r : A} → f ≡ g → new ≡ next
    → Gives code f new old r out → Gives code g next old r out
gives_same {code = code} {old = old} e n w = record {
  answers = w.answers ∙ ap₂ (λ (f : Option Refusal) (l : List ℕ). code (written f l old)) e n;
  stores = w.stores ∙ ap₂ (λ (f : Option Refusal) (l : List ℕ). stored f l old) e n;
}

module _ (ps : List TruePacket) (d : Described ps) where
  end : Outcome ps
  end = demand3 ps d

  -- the words at the end
  words_are : end_words ps ≡ source_words (count (arrivals ps))
  words_are = (chain_holds_count ps d).words

  good : sound (count (arrivals ps)) ≡ true
  good = ap sound (sym end.state) ∙ run_sound fresh_record ps fresh_sound

  typed : wire_number (count (arrivals ps)).remembered ≡ true
  unfolding count_from
  typed = refl

  read : loaded (end_words ps) ≡ Some (count (arrivals ps))
  read = ap loaded words_are ∙ sound_back (count (arrivals ps)) good typed

  is_source_lem : is_source (end_words ps) ≡ true
  is_source_lem = (held (end_words ps) read).1

  same : source_of (end_words ps) ≡ run ps
  same = sym (held (end_words ps) read).2 ∙ sym end.state

  -- no refusal for the words, and so none where the values have none
  unrefused : {f : Option Refusal} → f ≡ None → record_fault (end_words ps) f ≡ None
  unfolding record_fault
  unrefused e = rw (is_source_lem, e)

  lost_is_lem : lost_answer (source_of (end_words ps)) ≡ Ok (lost_of (arrivals ps))
  unfolding lost_answer
  lost_is_lem =
      let is : source_of (end_words ps) ≡ count (arrivals ps) = sym (held (end_words ps) read).2 in
      rw (is, good) (ap Ok (count_lost (arrivals ps) (arrivals_marks ps) good))

pub demand3_from_c : Demand3FromC
demand3_from_c ps d =
    let o = end ps d in
    let is = same ps d in
    record {
      chain = chain_holds_count ps d;
      read = read ps d;
      sound = good ps d;
      feedback = λ sender media old out r w.
          gives_same (unrefused ps d (ap fault is ∙ o.sound)) (ap (feedback_bytes sender media) is ∙ o.feedback sender media) w;
      summary = λ media old out r w. gives_same (unrefused ps d (ap fault is ∙ o.sound)) (ap (summary_bytes media) is ∙ o.summary media) w;
      lost = λ old found r w. gives_same (unrefused ps d (ap lost_fault (lost_is_lem ps d))) (ap lost_found (lost_is_lem ps d)) w;
      row = λ label ssrc jumped restarts old out r ok few less w.
          let its = o.row label ssrc jumped restarts ok few less in
          gives_same
          (unrefused ps d (ap (λ (s : Source). row_fault label (record { source = s; jumped = jumped; restarts = restarts })) is ∙ its.accepted))
          (ap (λ (s : Source). row_bytes label ssrc (record { source = s; jumped = jumped; restarts = restarts })) is ∙ its.bytes) w;
      order = λ qs other arrived first.
          words_are ps d ∙ ap source_words (sym o.state ∙ o.order qs other arrived first ∙ (end qs other).state) ∙ sym (words_are qs other);
    }

-- what a function gives on values
pub gave : {A : Type 0} (code : Result ℕ Unwritten → A) (f : Option Refusal) (new old : List ℕ) → Gives code f new old (code (written f new old)) (stored f new old)
gave code f new old = record { answers = refl; stores = refl }

-- at the list that shows that demand 3's hypotheses can be met, with empty outputs
used : Unit {0}
used =
    let end = demand3_from_c wrapped met.described in
    let feedback = end.feedback 1 2 [] _ _ (gave length_code _ _ []) in
    let summary = end.summary 2 [] _ _ (gave length_code _ _ []) in
    let lost = end.lost [] _ _ (gave refusal_code _ _ []) in
    let row = end.row text 1 3 2 [] _ _ met.label_ok_lem met.few_jumped met.few_restarts (gave length_code _ _ []) in
    let order = end.order reordered met.again.0 met.again.1 met.again.2 in
    tt
