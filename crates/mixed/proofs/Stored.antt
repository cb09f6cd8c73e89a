-- Words stored in a lent part, and the lines behind them. Assumes nothing.
use mathlib.Core.Path.{◌≡◌, refl, sym, ap, ap₂, ◌∙◌}
use mathlib.Core.List.{List, [], ◌∷◌, ◌++◌, append-nil, append_assoc}
use Prim.Native.Nat.{ℕ, suc, ◌+◌, ◌-◌, ◌*◌, ◌≤◌, ◌<◌}
use native.Mathlib.Omega.{arith}
use borrow.Rule.Slice.PartMut.{mid_of, post_of, put_mid}
use lib.ListN.{length, take, drop, set, length-append, length-drop, take-append-drop, drop_of_length-le}
use lib.Seq.{sets, sets-eq, take_all, take-take, take-append-le, drop_at, drop-drop, set_split, length-take-le}
use Rattle.answers.proofs.Stores.{sets-append, sets-front}
use Rattle.walk.specs.Blocks.{joined}
use Rattle.source.specs.declared.Totals.{Totals}
use Rattle.lent.specs.SourceWords.{source_words}
use Rattle.mixed.specs.Lines.{lines_in, ssrc_in, line_words}
use Rattle.mixed.specs.Places.{renewed_by, added_by, place_by, lower_by}
use Rattle.mixed.proofs.Cuts.{length-lines, joined_with}
use Rattle.mixed.proofs.Standing.{renewed_at, added_at}

-- ---- a line

-- a run of stores in the part of a list from a place on
part_run : (xs vs ys : List ℕ) (a : ℕ) → a + length vs ≤ length xs → ys ≡ sets (mid_of a (length xs - a) xs) 0 vs → put_mid a (length xs - a) xs ys ≡ sets xs a vs
part_run xs vs ys a room e =
    let part : mid_of a (length xs - a) xs ≡ drop a xs = take_all (length xs - a) (drop a xs) (rw (length-drop a xs) (omega arith)) in
    let end : post_of a (length xs - a) xs ≡ [] = drop_of_length-le (drop a xs) {i = length xs - a} (rw (length-drop a xs) (omega arith)) in
    let fits : length vs ≤ length (drop a xs) = rw (length-drop a xs) (omega arith) in
    let stored : ys ≡ vs ++ drop (a + length vs) xs =
    e ∙ ap (λ (l : List ℕ). sets l 0 vs) part ∙ sets-front (drop a xs) vs fits ∙ ap (λ (l : List ℕ). vs ++ l) (drop-drop (length vs) a xs) in
    ap (λ (l : List ℕ). take a xs ++ (ys ++ l)) end
    ∙ ap (λ (l : List ℕ). take a xs ++ l) (append-nil ys ∙ stored)
    ∙ sym (append_assoc (take a xs) vs (drop (a + length vs) xs))
    ∙ sym (sets-eq vs xs a room)

pub length-line : (ssrc : ℕ) (t : Totals) → length (line_words ssrc t) ≡ 13
unfolding line_words source_words
length-line ssrc t = refl

length-source : (t : Totals) → length (source_words t.source) ≡ 10
unfolding source_words
length-source t = refl

-- the SSRC, the record, jumped and restarts stored one after the other
pub line_stored : (line ys : List ℕ) (ssrc : ℕ) (t : Totals) → length line ≡ 13 → length (set line 0 ssrc) ≡ 13
    → ys ≡ sets (mid_of 1 (length (set line 0 ssrc) - 1) (set line 0 ssrc)) 0 (source_words t.source)
    → set (set (put_mid 1 (length (set line 0 ssrc) - 1) (set line 0 ssrc) ys) 11 t.jumped) 12 t.restarts ≡ line_words ssrc t
unfolding line_words
line_stored line ys ssrc t long same e =
    let first = set line 0 ssrc in
    let source = source_words t.source in
    let ends = t.jumped ∷ t.restarts ∷ [] in
    let ten = length-source t in
    let at : 1 + length source ≡ 11 = omega arith in
    let all : length (ssrc ∷ source ++ ends) ≡ 13 = length-line ssrc t in
    ap (λ (l : List ℕ). sets l 11 ends) (part_run first source ys 1 (omega arith) e)
    ∙ ap (λ (j : ℕ). sets (sets first 1 source) j ends) (sym at)
    ∙ sym (sets-append first 1 source ends)
    ∙ sets-front line (ssrc ∷ source ++ ends) (omega arith)
    ∙ ap (λ (l : List ℕ). (ssrc ∷ source ++ ends) ++ l) (drop_of_length-le line {i = length (ssrc ∷ source ++ ends)} (omega arith))
    ∙ append-nil (ssrc ∷ source ++ ends)

-- ---- the lines

module _ (ws : List ℕ) where
  -- words that begin as before are stored from the front on
  front_kept : (a : ℕ) (more : List ℕ) → a + length more ≤ length ws → sets ws 0 (take a ws ++ more) ≡ take a ws ++ (more ++ drop (a + length more) ws)
  front_kept a more h =
      let size : length (take a ws ++ more) ≡ a + length more = length-append (take a ws) more ∙ ap (λ (k : ℕ). k + length more) (length-take-le a ws (omega arith)) in
      sets-front ws (take a ws ++ more) (omega arith)
      ∙ ap (λ (k : ℕ). (take a ws ++ more) ++ drop k ws) size
      ∙ append_assoc (take a ws) more (drop (a + length more) ws)

  -- one line and what is taken from a place on, in front of the rest
  stored_with : (a k size : ℕ) (new : List ℕ) → length new ≡ 13 → a + 13 + size ≤ length ws → k + size ≤ length ws
      → sets ws 0 (take a ws ++ (new ++ take size (drop k ws))) ≡ take a ws ++ (new ++ (take size (drop k ws) ++ drop (a + 13 + size) ws))
  stored_with a k size new long room there =
      let more = take size (drop k ws) in
      let some : length more ≡ size = length-take-le size (drop k ws) (rw (length-drop k ws) (omega arith)) in
      let both : length (new ++ more) ≡ 13 + size = length-append new more ∙ omega arith in
      let end : a + length (new ++ more) ≡ a + 13 + size = omega arith in
      front_kept a (new ++ more) (omega arith)
      ∙ ap (λ (j : ℕ). take a ws ++ ((new ++ more) ++ drop j ws)) end
      ∙ ap (λ (l : List ℕ). take a ws ++ l) (append_assoc new more (drop (a + 13 + size) ws))

  module _ (n at k : ℕ) (new : List ℕ) (long : length new ≡ 13) (line : k ≡ 13) where
    renewed_stored : at < n → 13 * n ≤ length ws → put_mid (13 * at) k ws new ≡ sets ws 0 (joined (set (lines_in n ws) at new))
    renewed_stored h room =
        let size = 13 * (n - suc at) in
        let rest = drop (13 * suc at) ws in
        let next : 13 * at + k ≡ 13 * suc at = omega arith in
        let end : 13 * suc at + size ≡ 13 * at + 13 + size = omega arith in
        let inside : at < length (lines_in n ws) = omega (arith, length-lines n ws) in
        ap (λ (l : List ℕ). take (13 * at) ws ++ (new ++ l)) (drop-drop k (13 * at) ws ∙ ap (λ (j : ℕ). drop j ws) next ∙ sym (take-append-drop size rest) ∙ ap (λ (l : List ℕ). take size rest ++ l) (drop-drop size (13 * suc at) ws ∙ ap (λ (j : ℕ). drop j ws) end))
        ∙ sym (stored_with (13 * at) (13 * suc at) size new long (omega arith) (omega arith))
        ∙ ap (sets ws 0) (sym (joined_with n at (suc at) ws new (omega arith)) ∙ ap joined (sym (set_split (lines_in n ws) at new inside)))

    added_stored : (pushed : List ℕ) → at ≤ n → 13 * (n + 1) ≤ length ws
        → pushed ≡ sets ws (13 * (at + 1)) (take (13 * (n - at)) (drop (13 * at) ws))
        → put_mid (13 * at) k pushed new ≡ sets ws 0 (joined (take at (lines_in n ws) ++ new ∷ drop at (lines_in n ws)))
    added_stored pushed h room e =
        let size = 13 * (n - at) in
        let more = take size (drop (13 * at) ws) in
        let some : length more ≡ size = length-take-le size (drop (13 * at) ws) (rw (length-drop (13 * at) ws) (omega arith)) in
        let end : 13 * (at + 1) + length more ≡ 13 * at + 13 + size = omega arith in
        let next : 13 * at + k ≡ 13 * (at + 1) = omega arith in
        let tail = drop (13 * at + 13 + size) ws in
        let front : length (take (13 * (at + 1)) ws) ≡ 13 * (at + 1) = length-take-le (13 * (at + 1)) ws (omega arith) in
        let is : pushed ≡ take (13 * (at + 1)) ws ++ (more ++ tail) =
        e ∙ sets-eq more ws (13 * (at + 1)) (omega arith) ∙ ap (λ (j : ℕ). (take (13 * (at + 1)) ws ++ more) ++ drop j ws) end ∙ append_assoc (take (13 * (at + 1)) ws) more tail in
        let before : take (13 * at) pushed ≡ take (13 * at) ws =
        ap (take (13 * at)) is ∙ take-append-le (13 * at) (take (13 * (at + 1)) ws) (more ++ tail) (omega arith) ∙ take-take (13 * at) (13 * (at + 1)) ws (omega arith) in
        let after : post_of (13 * at) k pushed ≡ more ++ tail =
        drop-drop k (13 * at) pushed ∙ ap₂ (λ (j : ℕ) (l : List ℕ). drop j l) next is ∙ drop_at (take (13 * (at + 1)) ws) (more ++ tail) (13 * (at + 1)) front in
        ap₂ (λ (x y : List ℕ). x ++ (new ++ y)) before after
        ∙ sym (stored_with (13 * at) (13 * at) size new long (omega arith) (omega arith))
        ∙ ap (sets ws 0) (sym (joined_with n at at ws new h))

-- ---- a line in its place

ssrc_line : (ssrc : ℕ) (t : Totals) → ssrc_in (line_words ssrc t) ≡ ssrc
unfolding line_words
ssrc_line ssrc t = refl

module _ (ws : List ℕ) (n at k ssrc : ℕ) (t : Totals) (ys : List ℕ) (line : k ≡ 13) (is : ys ≡ line_words ssrc t) where
  abbrev lines : List (List ℕ)
  lines = lines_in n ws

  abbrev new : List ℕ
  new = line_words ssrc t

  pub line_renewed : at ≡ place_by ssrc_in ssrc lines → at < n → 13 * n ≤ length ws → put_mid (13 * at) k ws ys ≡ sets ws 0 (joined (renewed_by ssrc_in new lines))
  line_renewed e h room =
      ap (put_mid (13 * at) k ws) is
      ∙ renewed_stored ws n at k new (length-line ssrc t) line h room
      ∙ ap (λ (j : ℕ). sets ws 0 (joined (set lines j new))) (e ∙ ap (λ (s : ℕ). place_by ssrc_in s lines) (sym (ssrc_line ssrc t)))
      ∙ ap (λ (ls : List (List ℕ)). sets ws 0 (joined ls)) (sym (renewed_at ssrc_in new lines))

  pub line_added : (pushed : List ℕ) → at ≡ lower_by ssrc_in ssrc lines → at ≤ n → 13 * (n + 1) ≤ length ws
      → pushed ≡ sets ws (13 * (at + 1)) (take (13 * (n - at)) (drop (13 * at) ws)) → put_mid (13 * at) k pushed ys ≡ sets ws 0 (joined (added_by ssrc_in new lines))
  line_added pushed e h room p =
      ap (put_mid (13 * at) k pushed) is
      ∙ added_stored ws n at k new (length-line ssrc t) line pushed h room p
      ∙ ap (λ (j : ℕ). sets ws 0 (joined (take j lines ++ new ∷ drop j lines))) (e ∙ ap (λ (s : ℕ). lower_by ssrc_in s lines) (sym (ssrc_line ssrc t)))
      ∙ ap (λ (ls : List (List ℕ)). sets ws 0 (joined ls)) (sym (added_at ssrc_in new lines))
