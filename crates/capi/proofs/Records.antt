-- A source's record in lent words, or refusal 9. Assumes nothing.
use Rattle.std.specs.Prelude.{Option, Some, None, Result, Err}
use Rattle.answers.specs.declared.Unwritten.{Unwritten}
use mathlib.Core.Path.{◌≡◌, sym, ap, ◌∙◌}
use mathlib.Core.List.{List}
use Prim.Native.Nat.{ℕ, ◌+◌, ◌*◌}
use borrow.Author.Tests.{ne_eqb}
use lib.IntN.{pos, neg_ℤ}
use lib.Seq.{sets}
use Rattle.answers.specs.declared.Refusal.{Refusal}
use Rattle.answers.specs.declared.Refusal.TheVariants as refusal
use Rattle.answers.specs.Refusals.{number_of}
use Rattle.answers.specs.Writers.{Wrote}
use Rattle.answers.proofs.Stores.{wrote_refused}
use Rattle.source.specs.declared.Source.{Source}
use Rattle.source.specs.declared.Arrival.{Arrival}
use Rattle.source.specs.declared.Arrival.TheVariants.{Accepted, Restarted, Refused}
use Rattle.source.specs.declared.BlockCount.{BlockCount}
use Rattle.source.specs.declared.BlockCount.TheVariants.{Counted, Refused as NotCounted}
use Rattle.source.specs.Arrivals.{arrival}
use Rattle.source.specs.Blocks.{block_count}
use Rattle.lent.specs.SourceWords.{source_of, loaded, source_words}
use Rattle.lent.proofs.SourceLaws.{held, other}
use Rattle.capi.proofs.Fronts.{sets-whole}
use Rattle.capi.specs.OneSource.{record_fault, arrive_answer, arrive_words, CountsArrival, block_answer, block_words, CountsBlock}

-- ---- a writer of a record

module _ (words : List ℕ) (fault : Source → Option Refusal) (bytes : Source → List ℕ) (old : List ℕ) where
  -- the record is taken out of the words
  pub held_wrote : {s : Source} {answer : Result ℕ Unwritten} {out : List ℕ} → loaded words ≡ Some s → Wrote (fault s) (bytes s) old answer out
      → Wrote (record_fault words (fault (source_of words))) (bytes (source_of words)) old answer out
  unfolding record_fault
  held_wrote e w = let h = held words e in rw (h.1, ← h.2) w

  -- words that are no record's are refused
  pub other_wrote : loaded words ≡ None
      → Wrote (record_fault words (fault (source_of words))) (bytes (source_of words)) old (Err (Unwritten.Refused refusal.Malformed)) old
  unfolding record_fault
  other_wrote e = wrote_refused (bytes (source_of words)) old (rw (other words e))

-- ---- one arrival

module _ (words : List ℕ) (wire mark : ℕ) where
  pub arrives_other : loaded words ≡ None → CountsArrival words wire mark 9 words
  unfolding arrive_answer arrive_words
  arrives_other e = let t = other words e in record { answers = rw t; stores = rw t }

  module _ (s : Source) (e : loaded words ≡ Some s) where
    here : {a : Arrival} → arrival s (record { 0 = wire }) mark ≡ a → arrival (source_of words) (record { 0 = wire }) mark ≡ a
    here f = ap (λ (x : Source). arrival x (record { 0 = wire }) mark) (sym (held words e).2) ∙ f

    stored : (next : Source) → sets words 0 (source_words next) ≡ source_words next
    unfolding source_words
    stored next = sets-whole words (source_words next) (held words e).0

    pub arrives_next : {next : Source} → arrival s (record { 0 = wire }) mark ≡ Accepted next
        → CountsArrival words wire mark 0 (sets words 0 (source_words next))
    unfolding arrive_answer arrive_words
    arrives_next {next} f = let t = (held words e).1 in record { answers = rw (t, here f); stores = rw (t, here f) (stored next) }

    pub arrives_restarted : {next : Source} → arrival s (record { 0 = wire }) mark ≡ Restarted next
        → CountsArrival words wire mark 128 (sets words 0 (source_words next))
    unfolding arrive_answer arrive_words
    arrives_restarted {next} f = let t = (held words e).1 in record { answers = rw (t, here f); stores = rw (t, here f) (stored next) }

    pub arrives_jumped : {refusal : Refusal} {next : Source} → arrival s (record { 0 = wire }) mark ≡ Refused refusal next → number_of refusal ≡ 7
        → CountsArrival words wire mark 7 (sets words 0 (source_words next))
    unfolding arrive_answer arrive_words
    arrives_jumped {next = next} f n = let t = (held words e).1 in record { answers = rw (t, here f) (sym n); stores = rw (t, here f, n) (stored next) }

    pub arrives_refused : {refusal : Refusal} {same : Source} → arrival s (record { 0 = wire }) mark ≡ Refused refusal same → (number_of refusal ≡ 7 → ⊥)
        → CountsArrival words wire mark (number_of refusal) words
    unfolding arrive_answer arrive_words
    arrives_refused {refusal} f n = let t = (held words e).1 in record { answers = rw (t, here f); stores = rw (t, here f, ne_eqb (number_of refusal) 7 n) }

-- ---- a block of arrivals

module _ (words : List ℕ) (width : ℕ) (records : List ℕ) where
  pub counts_other : loaded words ≡ None → CountsBlock words width records (neg_ℤ (pos 9)) words
  unfolding block_answer block_words
  counts_other e = let t = other words e in record { answers = rw t; stores = rw t }

  module _ (s : Source) (e : loaded words ≡ Some s) where
    counted_here : {c : BlockCount} → block_count s width records ≡ c → block_count (source_of words) width records ≡ c
    counted_here f = ap (λ (x : Source). block_count x width records) (sym (held words e).2) ∙ f

    pub counts_next : {next : Source} {jumps restarts : ℕ} → block_count s width records ≡ Counted next jumps restarts
        → CountsBlock words width records (pos (256 * restarts + jumps)) (sets words 0 (source_words next))
    unfolding block_answer block_words source_words
    counts_next {next} f =
        let t = (held words e).1 in
        record { answers = rw (t, counted_here f); stores = rw (t, counted_here f) (sets-whole words (source_words next) (held words e).0) }

    pub counts_refused : {refusal : Refusal} {same : Source} → block_count s width records ≡ NotCounted refusal same
        → CountsBlock words width records (neg_ℤ (pos (number_of refusal))) words
    unfolding block_answer block_words
    counts_refused f = let t = (held words e).1 in record { answers = rw (t, counted_here f); stores = rw (t, counted_here f) }
