-- An upload and its 18 words: taking out and putting back are inverse. Assumes nothing.
use Rattle.std.specs.Prelude.{Option, Some, None}
use mathlib.Core.Path.{◌≡◌, refl, sym, ap, ◌∙◌, subst}
use mathlib.Core.Bool.{Bool, true, false, cond, ◌&&◌, ◌||◌}
use mathlib.Core.List.{List, [], ◌∷◌, ◌++◌}
use Prim.Native.Nat.{ℕ, ◌+◌, ◌^◌}
use native.Mathlib.Omega.{arith}
use borrow.Author.Tests.{eqb-true, lt-ltb}
use lib.Dec.{eqb, ltb}
use lib.IntN.{pos}
use lib.ListN.{length, get_or, replicate}
use lib.Signed.{le_z_yes, lt_z_yes}
use lib.Seq.{sets, take_all}
use Rattle.answers.specs.Refusals.{number_of}
use Rattle.answers.specs.declared.Refusal.{Refusal}
use Rattle.answers.specs.declared.Refusal.TheVariants.{Incomplete, Version, FirstPacket, PacketSize, Padding, BlockSize, Jump, Full, Malformed as Malformed9, Limits, Time, Checksum, Contents, Places, Rules, FormTwo, Attribute, Retired}
use Rattle.answers.proofs.Conditions.{and_left, and_right}
use Rattle.answers.proofs.Stores.{sets-append}
use Rattle.format.specs.declared.Form.{Form}
use Rattle.convert.specs.declared.feeds.Upload.{Upload}
use Rattle.convert.specs.Tables.{no_run}
use Rattle.convert.specs.Feeds.{fresh_upload, keepable}
use Rattle.lent.specs.FormWords.{form_number, is_form, form_of}
use Rattle.lent.specs.SourceWords.{FitsWord, source_of, is_source, source_words}
use Rattle.lent.specs.RunWords.{record_in, run_with}
use Rattle.lent.specs.FeedWords.{is_form_word, form_word, is_end, ended_of, end_word, upload_with, upload_of, is_upload, loaded, feed_words, FeedBack, FeedWordsBack, FreshIsZeros}
use Rattle.lent.proofs.SourceLaws.{record_back, words_back, held as source_held, elements, elements_are}
use Rattle.lent.proofs.RunLaws.{form_fits, form_back, form_word_lem, length-record, source_again}

-- ---- the form's word

form_word_fits : (blocks : ℕ) (form : Form) → is_form_word blocks (form_word blocks form) ≡ true
form_word_fits blocks form = go (eqb blocks 0)
  where
    go : (b : Bool) → cond b (eqb (cond b 0 (form_number form)) 0) (is_form (cond b 0 (form_number form))) ≡ true
    go true = refl
    go false = form_fits form

form_word_back : (blocks : ℕ) (form : Form) → (blocks ≡ 0 → form ≡ no_run.form) → form_of (form_word blocks form) ≡ form
form_word_back blocks form unused = go (eqb blocks 0) refl
  where
    go : (b : Bool) → eqb blocks 0 ≡ b → form_of (cond b 0 (form_number form)) ≡ form
    go true e = sym (unused (eqb-true blocks 0 e))
    go false e = form_back form

form_word_again : (blocks word : ℕ) → is_form_word blocks word ≡ true → form_word blocks (form_of word) ≡ word
form_word_again blocks word e = go (eqb blocks 0) e
  where
    go : (b : Bool) → cond b (eqb word 0) (is_form word) ≡ true → cond b 0 (form_number (form_of word)) ≡ word
    go true e = sym (eqb-true word 0 e)
    go false e = form_word_lem word e

-- ---- the refusal's

end_fits : (ended : Option Refusal) → keepable ended ≡ true → is_end (end_word ended) ≡ true
end_fits None e = refl
end_fits (Some refusal) e = go (eqb (number_of refusal) 0)
  where
    go : (b : Bool) → (b || keepable (Some refusal)) ≡ true
    go true = refl
    go false = e

end_back : (ended : Option Refusal) → keepable ended ≡ true → ended_of (end_word ended) ≡ ended
end_back None e = refl
end_back (Some refusal) e = go refusal e
  where
    no : {A : Type 0} → false ≡ true → A
    no e = let z : ◌≡◌ {A = ℕ} 0 1 = cc in absurd (omega arith)

    go : (r : Refusal) → keepable (Some r) ≡ true → ended_of (end_word (Some r)) ≡ Some r
    go Incomplete e = refl
    go Version e = no e
    go FirstPacket e = no e
    go PacketSize e = no e
    go Padding e = no e
    go BlockSize e = no e
    go Jump e = no e
    go Full e = no e
    go Malformed9 e = no e
    go Limits e = no e
    go Time e = no e
    go Checksum e = refl
    go Contents e = refl
    go Places e = no e
    go Rules e = no e
    go FormTwo e = no e
    go Attribute e = no e
    go Retired e = no e

end_again : (n : ℕ) → is_end n ≡ true → end_word (ended_of n) ≡ n
end_again n e = go (eqb n 0) (eqb n 1) (eqb n 13) refl refl refl e
  where
    go : (a b c : Bool) → eqb n 0 ≡ a → eqb n 1 ≡ b → eqb n 13 ≡ c → (a || (b || (c || eqb n 14))) ≡ true
        → end_word (cond a None (cond b (Some Incomplete) (cond c (Some Checksum) (Some Contents)))) ≡ n
    go true b c p q r e = sym (eqb-true n 0 p)
    go false true c p q r e = sym (eqb-true n 1 q)
    go false false true p q r e = sym (eqb-true n 13 r)
    go false false false p q r e = sym (eqb-true n 14 e)

-- ---- the parts stored one after the other

pub length-feed : (u : Upload) → length (feed_words u) ≡ 18
unfolding feed_words source_words
length-feed u = refl

pub three_parts : (l : List ℕ) (u : Upload)
    → sets (sets (sets l 0 (form_word u.blocks u.run.form ∷ u.run.length ∷ u.run.ssrc ∷ [])) 3 (source_words u.run.totals.source)) 13
    (u.run.totals.jumped ∷ u.run.totals.restarts ∷ u.blocks ∷ u.kept ∷ end_word u.ended ∷ [])
    ≡ sets l 0 (feed_words u)
unfolding feed_words
three_parts l u =
    let front = form_word u.blocks u.run.form ∷ u.run.length ∷ u.run.ssrc ∷ [] in
    let s = source_words u.run.totals.source in
    let back = u.run.totals.jumped ∷ u.run.totals.restarts ∷ u.blocks ∷ u.kept ∷ end_word u.ended ∷ [] in
    let at : 3 + length s ≡ 13 = omega (arith, length-record u.run.totals.source) in
    sym (sets-append l 0 front (s ++ back) ∙ sets-append (sets l 0 front) 3 s back ∙ ap (λ (n : ℕ). sets (sets (sets l 0 front) 3 s) n back) at)

-- ---- uploads

-- what holds of 18 words that are an upload's
pub record Words (words : List ℕ) : Type 0 where
  pub long : length words ≡ 18
  pub form : is_form_word (get_or words 15 0) (get_or words 0 0) ≡ true
  pub ssrc : ltb (get_or words 2 0) (2 ^ 32) ≡ true
  pub end : is_end (get_or words 17 0) ≡ true
  pub its : is_source (record_in words) ≡ true

pub words_of : (words : List ℕ) → is_upload words ≡ true → Words words
words_of words e =
    let form = is_form_word (get_or words 15 0) (get_or words 0 0) in
    let ssrc = ltb (get_or words 2 0) (2 ^ 32) in
    let end = is_end (get_or words 17 0) in
    let its = is_source (record_in words) in
    let a = and_right (eqb (length words) 18) (form && (ssrc && (end && its))) e in
    let b = and_right form (ssrc && (end && its)) a in
    let c = and_right ssrc (end && its) b in
    record {
      long = eqb-true (length words) 18 (and_left (eqb (length words) 18) (form && (ssrc && (end && its))) e);
      form = and_left form (ssrc && (end && its)) a;
      ssrc = and_left ssrc (end && its) b;
      end = and_left end its c;
      its = and_right end its c;
    }

pub held : (words : List ℕ) {u : Upload} → loaded words ≡ Some u → (is_upload words ≡ true) × (u ≡ upload_of words)
unfolding loaded
held words {u} e = go (is_upload words) refl e
  where
    go : (b : Bool) → is_upload words ≡ b → cond b (Some (upload_of words)) None ≡ Some u → (is_upload words ≡ true) × (u ≡ upload_of words)
    go true f e = (f, cc)
    go false f e = let z : ◌≡◌ {A = ℕ} 0 1 = cc in absurd (omega arith)

-- and those that are none's are not
pub other : (words : List ℕ) → loaded words ≡ None → is_upload words ≡ false
unfolding loaded
other words e = go (is_upload words) e
  where
    go : (b : Bool) → cond b (Some (upload_of words)) None ≡ None → b ≡ false
    go true e = let z : ◌≡◌ {A = ℕ} 0 1 = cc in absurd (omega arith)
    go false e = refl

pub feed_back : FeedBack
unfolding loaded feed_words upload_with run_with source_words
feed_back u ssrc base highest number kept unused =
    let s = u.run.totals.source in
    let back = source_held (source_words s) (record_back s base highest number) in
    rw (form_word_fits u.blocks u.run.form, lt-ltb u.run.ssrc (2 ^ 32) ssrc, end_fits u.ended kept, back.1) (ap Some (λ i. record {
      run = record {
        form = form_word_back u.blocks u.run.form unused i;
        length = u.run.length;
        ssrc = u.run.ssrc;
        totals = record { source = sym back.2 i; jumped = u.run.totals.jumped; restarts = u.run.totals.restarts };
      };
      blocks = u.blocks;
      kept = u.kept;
      ended = end_back u.ended kept i;
    }))

pub feed_words_back : FeedWordsBack
unfolding feed_words upload_with run_with elements
feed_words_back words u base highest e =
    let h = held words e in
    let w = words_of words h.0 in
    let form = form_word_again (get_or words 15 0) (get_or words 0 0) w.form in
    let end = end_again (get_or words 17 0) w.end in
    let all = sym (take_all 18 words (omega (arith, w.long))) ∙ elements_are words 0 18 (omega (arith, w.long)) in
    let part : record_in words ≡ elements words 3 10 = elements_are words 3 10 (omega (arith, w.long)) in
    let same = words_back (record_in words) (source_of (record_in words)) (rw part base) (rw part highest) (source_again (record_in words) w.its) in
    ap feed_words h.1
    ∙ (λ i. form i ∷ get_or words 1 0 ∷ get_or words 2 0 ∷ ((same ∙ part) i ++ (get_or words 13 0 ∷ get_or words 14 0 ∷ get_or words 15 0 ∷ get_or words 16 0 ∷ end i ∷ [])))
    ∙ sym all

pub fresh_is_zeros : FreshIsZeros
unfolding feed_words source_words
fresh_is_zeros = refl

-- the hypotheses are met: an upload that keeps nothing
zero_fits : FitsWord (pos 0)
zero_fits = record { least = le_z_yes tt; most = lt_z_yes tt }

used : Unit {0}
used =
    let back = feed_back fresh_upload (omega arith) zero_fits zero_fits refl refl (λ e. refl) in
    let words = feed_words_back (replicate 18 0) fresh_upload (omega arith) (omega arith) (subst (λ (l : List ℕ). loaded l ≡ Some fresh_upload) fresh_is_zeros back) in
    tt
