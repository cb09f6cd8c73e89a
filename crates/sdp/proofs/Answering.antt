-- The reader's answer as a function, and that it is what the definitions say. Assumes nothing.
use Rattle.std.specs.Prelude.{Option, Some, None, Result, Ok}
use mathlib.Core.Path.{◌≡◌, refl, sym, ap, ◌∙◌}
use mathlib.Core.Bool.{Bool, true, false, cond, false≢true}
use mathlib.Core.List.{List}
use Prim.Native.Nat.{ℕ, ◌≤◌, ◌<◌}
use native.Mathlib.Omega.{arith}
use borrow.Author.Tests.{ltb-true, ltb-false, lt-ltb, le-ltb}
use lib.Dec.{ltb}
use lib.ListN.{length}
use Rattle.answers.specs.declared.Refusal.{Refusal}
use Rattle.answers.specs.declared.Refusal.TheVariants as why
use Rattle.sdp.specs.declared.Attribute.{Attribute}
use Rattle.sdp.specs.declared.steps.Part.TheVariants as part
use Rattle.sdp.specs.declared.reader.Tally.{Tally}
use Rattle.sdp.specs.Grammar.{Line, Derives}
use Rattle.sdp.specs.Reading.{modes_of, ects_of, Says, kept, refused_by, Reads}
use Rattle.sdp.specs.Steps.{begins, Entry}
use Rattle.sdp.specs.Tallies.{no_tally, finished}
use Rattle.sdp.specs.Theorems.{ReadsOnce}
use Rattle.sdp.proofs.Found.{cond_cases}
use Rattle.sdp.proofs.Derivations.{items, line_of, derives_items, items_derives, one_reading}
use Rattle.sdp.proofs.Counting.{tallied, counts, kept_all}

-- what is answered to the items that are left, with those passed
unfoldable pub outcome : Tally → Option (List Entry) → Result Attribute Refusal
outcome t None = refused_by why.Attribute
outcome t (Some xs) = finished (tallied t xs)

abbrev pub items_in : List ℕ → Option (List Entry)
items_in s = items (length s) part.Methods s 19

module _ (s : List ℕ) (fits : length s ≤ 255) where
  -- a line that does not begin so, or has no such items, says nothing
  pub reads_unnamed : begins s ≡ false → Reads s (refused_by why.Attribute)
  reads_unnamed b = Reads.malformed fits (λ x h. false≢true (sym b ∙ (derives_items h.derived).0))

  reads_none : items_in s ≡ None → Reads s (refused_by why.Attribute)
  reads_none e =
      Reads.malformed fits (λ x h. let (b, l, (xs, i, p)) = derives_items h.derived in let z : ◌≡◌ {A = ℕ} 0 1 = cc in omega arith)

  reads_some : (xs : List Entry) → Derives s (line_of xs) → Reads s (finished (tallied no_tally xs))
  unfolding finished
  reads_some xs d =
      let t = tallied no_tally xs in
      let c = counts xs no_tally in
      cond_cases (Reads s) (ltb 1 t.modes)
      (λ e. Reads.malformed fits (λ x h. let m = ap (λ (w : Line). length (modes_of w.parms)) (one_reading s x (line_of xs) h.derived d) in
      omega (arith, ltb-true 1 t.modes e, c.modes, h.one_mode))) λ e.
      cond_cases (Reads s) (ltb 1 t.ects)
      (λ f. Reads.malformed fits (λ x h. let m = ap (λ (w : Line). length (ects_of w.parms)) (one_reading s x (line_of xs) h.derived d) in
      omega (arith, ltb-true 1 t.ects f, c.ects, h.one_ect))) λ f.
      let mode : length (modes_of (line_of xs).parms) ≤ 1 = omega (arith, ltb-false 1 t.modes e, c.modes) in
      let ect : length (ects_of (line_of xs).parms) ≤ 1 = omega (arith, ltb-false 1 t.ects f, c.ects) in
      let says : Says s (line_of xs) = record { derived = d; one_mode = mode; one_ect = ect } in
      cond_cases (Reads s) (ltb 8 t.methods) (λ g. Reads.methods fits says (omega (arith, ltb-true 8 t.methods g, c.methods))) λ g.
      let few : length (line_of xs).methods ≤ 8 = omega (arith, ltb-false 8 t.methods g, c.methods) in
      cond_cases (Reads s) (ltb 8 t.parms) (λ h. Reads.parms fits says (omega (arith, ltb-true 8 t.parms h, c.parms))) λ h.
      rw (kept_all xs few) (Reads.given fits says few (omega (arith, ltb-false 8 t.parms h, c.parms)))

  pub reads_outcome : begins s ≡ true → Reads s (outcome no_tally (items_in s))
  unfolding outcome
  reads_outcome b = go (items_in s) refl
    where
      go : (w : Option (List Entry)) → items_in s ≡ w → Reads s (outcome no_tally w)
      go None e = reads_none e
      go (Some xs) e = reads_some xs (items_derives s xs b e)

-- ---- the line fixes the answer

-- what is answered to a well_formed line
said : Line → Result Attribute Refusal
said x =
    cond (ltb 8 (length x.methods)) (refused_by why.Limits)
    (cond (ltb 8 (length x.parms)) (refused_by why.Limits) (Ok (kept x)))

data View (s : List ℕ) (r : Result Attribute Refusal) : Type 0 where
  long : 255 < length s → r ≡ refused_by why.Limits → View s r
  malformed : length s ≤ 255 → ((x : Line) → Says s x → ⊥) → r ≡ refused_by why.Attribute → View s r
  formed : (x : Line) → length s ≤ 255 → Says s x → r ≡ said x → View s r

view : {s : List ℕ} {r : Result Attribute Refusal} → Reads s r → View s r
unfolding said
view (Reads.long h) = View.long h refl
view (Reads.malformed h f) = View.malformed h f refl
view (Reads.methods {x} h w l) = View.formed x h w (rw (lt-ltb 8 (length x.methods) l))
view (Reads.parms {x} h w l) = View.formed x h w (go (ltb 8 (length x.methods)))
  where
    go : (b : Bool) → refused_by why.Limits
        ≡ cond b (refused_by why.Limits) (cond (ltb 8 (length x.parms)) (refused_by why.Limits) (Ok (kept x)))
    go true = refl
    go false = rw (lt-ltb 8 (length x.parms) l)
view (Reads.given {x} h w l k) = View.formed x h w (rw (le-ltb 8 (length x.methods) l, le-ltb 8 (length x.parms) k))

pub reads_once : ReadsOnce
reads_once s r q a b = go (view a) (view b)
  where
    go : View s r → View s q → r ≡ q
    go (View.long h e) (View.long k f) = e ∙ sym f
    go (View.long h e) (View.malformed k g f) = absurd (omega arith)
    go (View.long h e) (View.formed y k w f) = absurd (omega arith)
    go (View.malformed h g e) (View.long k f) = absurd (omega arith)
    go (View.malformed h g e) (View.malformed k j f) = e ∙ sym f
    go (View.malformed h g e) (View.formed y k w f) = absurd (g y w)
    go (View.formed x h v e) (View.long k f) = absurd (omega arith)
    go (View.formed x h v e) (View.malformed k j f) = absurd (j x v)
    go (View.formed x h v e) (View.formed y k w f) = e ∙ ap said (one_reading s x y v.derived w.derived) ∙ sym f

-- ---- every line has an answer

unfoldable pub read_of : List ℕ → Result Attribute Refusal
read_of s = cond (ltb 255 (length s)) (refused_by why.Limits) (cond (begins s) (outcome no_tally (items_in s)) (refused_by why.Attribute))

pub reads_of : (s : List ℕ) → Reads s (read_of s)
unfolding read_of
reads_of s =
    cond_cases (Reads s) (ltb 255 (length s)) (λ e. Reads.long (ltb-true 255 (length s) e)) λ e.
    let f = ltb-false 255 (length s) e in
    cond_cases (Reads s) (begins s) (λ b. reads_outcome s f b) (λ b. reads_unnamed s f b)
