-- The compound of a table as its writer stores it. Assumes nothing.
use Rattle.std.specs.Prelude.{Result}
use Rattle.answers.specs.declared.Unwritten.{Unwritten}
use mathlib.Core.Path.{◌≡◌, refl, sym, ap, ◌∙◌}
use mathlib.Core.Bool.{true, ◌&&◌}
use mathlib.Core.List.{List, [], ◌∷◌, ◌++◌, map, append-nil, append_assoc}
use Prim.Native.Nat.{ℕ, ◌+◌, ◌-◌, ◌*◌, ◌≤◌, ◌<◌}
use native.Mathlib.Omega.{arith}
use borrow.Author.Tests.{le-ltb}
use borrow.Rule.Slice.PartMut.{mid_of, post_of, put_mid}
use lib.ListN.{length, get_or, take, drop, length-append, length-drop, drop_of_length-le}
use lib.Seq.{sets, sets-eq, take_all, drop-drop}
use Rattle.answers.specs.Conditions.{all}
use Rattle.answers.specs.Writers.{stored, Wrote}
use Rattle.answers.proofs.Conditions.{and_left, and_right}
use Rattle.answers.proofs.Stores.{sets-append, sets-step}
use Rattle.report.specs.Reports.{fault, feedback_bytes}
use Rattle.report.specs.Carried.{highest_of, counts_of}
use Rattle.report.proofs.Faults.{fault_none}
use Rattle.report.proofs.Layouts.{length-feedback}
use Rattle.source.specs.declared.Source.{Source}
use Rattle.source.specs.Record.{sound}
use Rattle.numbers.specs.BigEndian.{bytes}
use Rattle.sources.specs.declared.Place.{Place}
use Rattle.sources.specs.Places.{empty_place, sound_place, held_of}
use Rattle.sources.specs.Compounds.{receiver_report, feedbacks, compound_bytes}
use Rattle.sources.proofs.Turns.{one_left, none_left}

-- ---- lengths

pub feedback_long : (sender media : ℕ) (s : Source) → length (feedback_bytes sender media s) ≡ 32
feedback_long sender media s = length-feedback sender media (highest_of s) (counts_of s)

pub report_long : (sender : ℕ) → length (receiver_report sender) ≡ 8
unfolding receiver_report bytes
report_long sender = refl

pub feedbacks_long : (sender : ℕ) (ps : List Place) → length (feedbacks sender ps) ≡ 32 * length ps
unfolding feedbacks
feedbacks_long sender [] = refl
feedbacks_long sender (p ∷ ps) =
    length-append (feedback_bytes sender p.ssrc p.source) (feedbacks sender ps)
    ∙ omega (arith, feedback_long sender p.ssrc p.source, feedbacks_long sender ps)

pub compound_long : (sender : ℕ) (ps : List Place) (n : ℕ) → n ≡ length (held_of ps) → length (compound_bytes sender ps) ≡ 8 + 32 * n
unfolding compound_bytes
compound_long sender ps n e =
    length-append (receiver_report sender) (feedbacks sender (held_of ps)) ∙ omega (arith, report_long sender, feedbacks_long sender (held_of ps))

-- ---- the RR

pub report_stored : (sender : ℕ) (old : List ℕ) {out end : List ℕ} → out ≡ sets old 0 (bytes 4 0x80C90001) → end ≡ sets out 4 (bytes 4 sender)
    → end ≡ sets old 0 (receiver_report sender)
unfolding receiver_report bytes
report_stored sender old e f = f ∙ ap (λ (l : List ℕ). sets l 4 (bytes 4 sender)) e ∙ sym (sets-append old 0 (bytes 4 0x80C90001) (bytes 4 sender))

pub compound_stored : (sender : ℕ) (ps : List Place) (old : List ℕ) {out end : List ℕ} {qs : List Place} → held_of ps ≡ qs
    → out ≡ sets old 0 (receiver_report sender) → end ≡ sets out 8 (feedbacks sender qs) → end ≡ sets old 0 (compound_bytes sender ps)
unfolding compound_bytes
compound_stored sender ps old {qs = qs} h e f =
    let eight : 8 ≡ 0 + length (receiver_report sender) = omega (arith, report_long sender) in
    f
    ∙ ap (λ (l : List ℕ). sets l 8 (feedbacks sender qs)) e
    ∙ ap (λ (k : ℕ). sets (sets old 0 (receiver_report sender)) k (feedbacks sender qs)) eight
    ∙ sym (sets-append old 0 (receiver_report sender) (feedbacks sender qs))
    ∙ ap (λ (l : List Place). sets old 0 (receiver_report sender ++ feedbacks sender l)) (sym h)

-- ---- a feedback packet in the part of the output from a place on

module _ (s : Source) (sender media at : ℕ) (old : List ℕ) (good : sound s ≡ true) (room : at + 32 ≤ length old) where
  abbrev new : List ℕ
  new = feedback_bytes sender media s

  abbrev part : List ℕ
  part = mid_of at (length old - at) old

  part_is : part ≡ drop at old
  part_is = take_all (length old - at) (drop at old) (rw (length-drop at old) (omega arith))

  end_is : post_of at (length old - at) old ≡ []
  end_is = drop_of_length-le (drop at old) {i = length old - at} (rw (length-drop at old) (omega arith))

  pub feedback_stored : {answer : Result ℕ Unwritten} {ys : List ℕ} → Wrote (fault s) new part answer ys → put_mid at (length old - at) old ys ≡ sets old at new
  unfolding stored
  feedback_stored {ys = ys} w =
      let l = feedback_long sender media s in
      let fits : length new ≤ length part = rw (part_is, length-drop at old) (omega arith) in
      let e : ys ≡ new ++ drop (length new) part = w.stores ∙ rw (fault_none s good, le-ltb (length part) (length new) fits) in
      rw (end_is, append-nil ys)
      (ap (λ (l : List ℕ). take at old ++ l) (e ∙ ap (λ (l : List ℕ). new ++ drop (length new) l) part_is ∙ ap (λ (l : List ℕ). new ++ l) (drop-drop (length new) at old))
      ∙ sym (append_assoc (take at old) new (drop (at + length new) old))
      ∙ sym (sets-eq new old at (omega arith)))

-- ---- the feedback of the places one by one

module _ (xs : List Place) (n i sender : ℕ) where
  abbrev left : List Place
  left = drop i (take n xs)

  abbrev here : Place
  here = get_or xs i empty_place

  module _ (h : i < n) (k : n ≤ length xs) where
    sounds_here : all (map sound_place left) ≡ true → (sound_place here && all (map sound_place (drop (i + 1) (take n xs)))) ≡ true
    sounds_here e = sym (ap (λ (ps : List Place). all (map sound_place ps)) (one_left xs n i h k)) ∙ e

    pub sound_first : all (map sound_place left) ≡ true → sound here.source ≡ true
    sound_first e = and_left (sound_place here) (all (map sound_place (drop (i + 1) (take n xs)))) (sounds_here e)

    pub sound_rest : all (map sound_place left) ≡ true → all (map sound_place (drop (i + 1) (take n xs))) ≡ true
    sound_rest e = and_right (sound_place here) (all (map sound_place (drop (i + 1) (take n xs)))) (sounds_here e)

    pub feedbacks_turn : (old : List ℕ) {out : List ℕ} → out ≡ sets old (8 + 32 * i) (feedback_bytes sender here.ssrc here.source)
        → sets out (8 + 32 * (i + 1)) (feedbacks sender (drop (i + 1) (take n xs))) ≡ sets old (8 + 32 * i) (feedbacks sender left)
    unfolding feedbacks
    feedbacks_turn old e =
        let new = feedback_bytes sender here.ssrc here.source in
        let next : 8 + 32 * (i + 1) ≡ 8 + 32 * i + length new = omega (arith, feedback_long sender here.ssrc here.source) in
        sets-step old (8 + 32 * i) new (feedbacks sender (drop (i + 1) (take n xs))) (ap (feedbacks sender) (one_left xs n i h k)) e next

  pub feedbacks_done : (old : List ℕ) → n ≤ i → old ≡ sets old (8 + 32 * i) (feedbacks sender left)
  unfolding feedbacks
  feedbacks_done old h = rw (none_left xs n i h)
