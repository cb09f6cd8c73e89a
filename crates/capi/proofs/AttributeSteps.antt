-- A line, a record and an offer in lent words, or their refusals; and what is written, read. Assumes nothing.
use Rattle.std.specs.Prelude.{Option, Some, None, Result, Ok, Err}
use Rattle.answers.specs.declared.Unwritten.{Unwritten}
use mathlib.Core.Path.{◌≡◌, refl, sym, ap, ◌∙◌, subst}
use mathlib.Core.Bool.{Bool, true, false, cond}
use mathlib.Core.List.{List, [], ◌∷◌, ◌++◌}
use Prim.Native.Nat.{ℕ, ◌≤◌, ◌<◌}
use native.Mathlib.Omega.{arith}
use borrow.Author.Tests.{ltb-false}
use lib.Dec.{ltb, eqb}
use lib.ListN.{length, get_or, drop, replicate}
use lib.Seq.{sets}
use Rattle.answers.specs.declared.Refusal.{Refusal}
use Rattle.answers.specs.declared.Refusal.TheVariants as refusal
use Rattle.answers.specs.Refusals.{number_of}
use Rattle.answers.specs.Writers.{written, stored, size_in, Wrote}
use Rattle.answers.proofs.Stores.{wrote_refused, wrote_short, wrote_all, wrote_same, wrote_size, sets-front}
use Rattle.sdp.specs.declared.Method.TheVariants.{Rtp}
use Rattle.sdp.specs.declared.Attribute.{Attribute}
use Rattle.sdp.specs.declared.Chosen.{Chosen}
use Rattle.sdp.specs.Reading.{Reads, attribute_of}
use Rattle.sdp.specs.Writing.{attribute_bytes, write_fault, methods_in}
use Rattle.sdp.specs.Answers.{answered, answer_of}
use Rattle.sdp.proofs.Answering.{reads_once}
use Rattle.sdp.proofs.Backs.{written_fits, reads_back}
use Rattle.lent.specs.AttributeWords.{method_number, mode_number, ect_number, attribute_in, is_attribute, loaded, attribute_words, cleared, some_attribute}
use Rattle.lent.proofs.AttributeLaws as laws
use Rattle.lent.proofs.AttributeLaws.{attribute_back, attribute_words_back, length-attribute}
use Rattle.capi.specs.Codes.{refusal_code}
use Rattle.capi.specs.AttributeCalls.{verdict_fault, reading_words, ReadsAttribute, record_fault, negotiated, Tells, WordsReadBack}
use Rattle.capi.proofs.Answers.{gives}

-- ---- a line is read

module _ (line old : List ℕ) where
  pub read_refused : {r : Refusal} → Reads line (Err r) → ReadsAttribute line old (number_of r) old
  read_refused {r} reads = record { reading = Err r; reads = reads; gives = gives refusal_code (wrote_refused {fault = Some r} [] old refl) refl }

  module _ {a : Attribute} (reads : Reads line (Ok a)) where
    abbrev new : List ℕ
    new = attribute_words a

    size : length new ≡ 11
    size = length-attribute a

    pub read_short : length old < 11 → ReadsAttribute line old 12 old
    read_short h =
        record { reading = Ok a; reads = reads; gives = gives refusal_code (wrote_short {fault = None} new old refl (omega (arith, size)) (sym size)) refl }

    pub read_told : 11 ≤ length old → ReadsAttribute line old 0 (sets old 0 new)
    read_told h =
        record {
          reading = Ok a;
          reads = reads;
          gives = gives refusal_code (wrote_all {fault = None} new old refl (omega (arith, size)) (sym size) refl) refl;
        }

-- ---- a record is written

-- every record that is loaded has its eight places
places : (words : List ℕ) → length (attribute_in words).methods ≡ 8
unfolding attribute_in
places words = refl

-- what was loaded of words: whether they are a record, and which
module _ (words : List ℕ) where
  pub write_refused : (old : List ℕ) → loaded words ≡ None
      → Wrote (record_fault words) (attribute_bytes (attribute_in words)) old (Err (Unwritten.Refused refusal.Malformed)) old
  unfolding record_fault
  write_refused old e = wrote_refused (attribute_bytes (attribute_in words)) old (rw (laws.other words e))

  module _ {a : Attribute} (e : loaded words ≡ Some a) {old out : List ℕ} {answer : Result ℕ Unwritten} where
    pub write_held : Wrote (write_fault a) (attribute_bytes a) old answer out → Wrote (record_fault words) (attribute_bytes (attribute_in words)) old answer out
    unfolding record_fault
    write_held w = wrote_same (ap write_fault (laws.which words e) ∙ rw (laws.held words e)) (ap attribute_bytes (laws.which words e)) w

    -- a line that is not refused has at most 84 bytes
    pub line_fits_lem : Wrote (write_fault a) (attribute_bytes a) old answer out → size_in answer ≤ 84
    line_fits_lem w =
        let eight : length a.methods ≡ 8 = ap (λ (x : Attribute). length x.methods) (laws.which words e) ∙ places words in
        wrote_size 84 (λ e. (written_fits a (record { places = eight; sound = e })).1) w

-- ---- an offer is answered

module _ (offer ours : List ℕ) where
  pub no_offer : loaded offer ≡ None → Err refusal.Malformed ≡ negotiated offer ours
  unfolding negotiated
  no_offer e = rw (laws.other offer e)

  module _ {a : Attribute} (e : loaded offer ≡ Some a) where
    pub no_abilities : loaded ours ≡ None → Err refusal.Malformed ≡ negotiated offer ours
    unfolding negotiated
    no_abilities f = rw (laws.held offer e, laws.other ours f)

    pub both_held : {b : Attribute} → loaded ours ≡ Some b → answer_of a b ≡ negotiated offer ours
    unfolding negotiated
    both_held f = (λ i. answer_of (laws.which offer e i) (laws.which ours f i)) ∙ rw (laws.held offer e, laws.held ours f)

-- what is told of an answer is told of one that equals it
pub told_by : {m n : Result (Option Chosen) Refusal} → m ≡ n → (old : List ℕ) (r : ℕ) (found : List ℕ) → Tells m old r found → Tells n old r found
told_by e old r found t = subst (λ (n : Result (Option Chosen) Refusal). Tells n old r found) e t

module _ (old : List ℕ) where
  pub tell_refused : (r : Refusal) → Tells (Err r) old (number_of r) old
  tell_refused r = gives refusal_code (wrote_refused {fault = Some r} [] old refl) refl

  pub tell_left_out : Tells (Ok None) old 129 old
  tell_left_out = record { answers = refl; stores = refl }

  pub tell_short : (c : Chosen) → length old < 11 → Tells (Ok (Some c)) old 12 old
  tell_short c h =
      let size = length-attribute (answered c) in
      gives refusal_code (wrote_short {fault = None} (attribute_words (answered c)) old refl (omega (arith, size)) (sym size)) refl

  pub tell_chosen : (c : Chosen) → 11 ≤ length old → Tells (Ok (Some c)) old 0 (sets old 0 (attribute_words (answered c)))
  tell_chosen c h =
      let size = length-attribute (answered c) in
      gives refusal_code (wrote_all {fault = None} (attribute_words (answered c)) old refl (omega (arith, size)) (sym size) refl) refl

-- ---- what is written, read

twice : (b : Bool) (n : ℕ) → cond b (cond b n 0) 0 ≡ cond b n 0
twice true n = refl
twice false n = refl

-- a record's words have 0 behind the last method
cleared_again : (a : Attribute) → cleared (attribute_words a) ≡ attribute_words a
unfolding attribute_words
cleared_again a =
    let t : (i : ℕ) → _ = λ i. twice (ltb i a.used) (method_number (get_or a.methods i Rtp)) in
    λ j.
    a.used ∷ t 0 j ∷ t 1 j ∷ t 2 j ∷ t 3 j ∷ t 4 j ∷ t 5 j ∷ t 6 j ∷ t 7 j ∷ mode_number a.mode ∷ ect_number a.ect ∷ []

-- the same methods, mode and ect have the same words
same_words : (a : Attribute) → length a.methods ≡ 8 → a.used ≤ 8 → attribute_words (attribute_of (methods_in a) a.mode a.ect) ≡ attribute_words a
same_words a long few =
    attribute_words_back (attribute_words a) (attribute_of (methods_in a) a.mode a.ect) (attribute_back a long few) ∙ cleared_again a

few_written : (a : Attribute) → write_fault a ≡ None → a.used ≤ 8
unfolding write_fault
few_written a e = go (eqb a.used 0) (ltb 8 a.used) refl e
  where
    go : (b c : Bool) → ltb 8 a.used ≡ c → cond b (Some refusal.Limits) (cond c (Some refusal.Limits) None) ≡ None → a.used ≤ 8
    go true c f e = let z : ◌≡◌ {A = ℕ} 0 1 = cc in absurd (omega arith)
    go false true f e = let z : ◌≡◌ {A = ℕ} 0 1 = cc in absurd (omega arith)
    go false false f e = ltb-false 8 a.used f

-- words that are not refused are a record's, and its writer does not refuse it
passed : (words : List ℕ) → record_fault words ≡ None → (is_attribute words ≡ true) × (write_fault (attribute_in words) ≡ None)
unfolding record_fault
passed words e = go (is_attribute words) e
  where
    go : (b : Bool) → cond b (write_fault (attribute_in words)) (Some refusal.Malformed) ≡ None → (b ≡ true) × (write_fault (attribute_in words) ≡ None)
    go true e = (refl, e)
    go false e = let z : ◌≡◌ {A = ℕ} 0 1 = cc in absurd (omega arith)

pub words_read_back : WordsReadBack
words_read_back words room found r e roomy w =
    let a = attribute_in words in
    let ok = passed words e in
    let eight = places words in
    let read = reads_back a (record { places = eight; sound = ok.1 }) in
    let same = reads_once (attribute_bytes a) w.reading _ w.reads read in
    let its = attribute_words (attribute_of (methods_in a) a.mode a.ect) in
    let words_are : its ≡ cleared words =
    same_words a eight (few_written a ok.1) ∙ attribute_words_back words a (laws.its words ok.0) in
    let size = length-attribute (attribute_of (methods_in a) a.mode a.ect) in
    let all : Wrote None its room (Ok 11) (sets room 0 its) = wrote_all its room refl (omega (arith, size)) (sym size) refl in
    let told : written (verdict_fault w.reading) (reading_words w.reading) room ≡ Ok 11 =
    ap (λ (x : Result Attribute Refusal). written (verdict_fault x) (reading_words x) room) same ∙ sym all.answers in
    let left : found ≡ sets room 0 its =
    w.gives.stores ∙ ap (λ (x : Result Attribute Refusal). stored (verdict_fault x) (reading_words x) room) same ∙ sym all.stores in (
      w.gives.answers ∙ ap refusal_code told,
      left ∙ sets-front room its (omega (arith, size)) ∙ (λ i. words_are i ++ drop (size i) room),
    )

used : Unit {0}
unfolding record_fault is_attribute attribute_in write_fault
used =
    let a = attribute_in some_attribute in
    let room : List ℕ = replicate 11 0 in
    let its = attribute_words (attribute_of (methods_in a) a.mode a.ect) in
    let read = reads_back a (record { places = refl; sound = refl }) in
    let w : ReadsAttribute (attribute_bytes a) room 0 (sets room 0 its) = read_told (attribute_bytes a) room read (omega arith) in
    let back = words_read_back some_attribute room (sets room 0 its) 0 refl (omega arith) w in
    tt
