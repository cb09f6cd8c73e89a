use Rattle.std.specs.Prelude.{Option, Some, None}
use mathlib.Core.Path.{◌≡◌, refl, sym, ap, ◌∙◌}
use native.Mathlib.Omega.{arith}
use Prim.Native.Nat.{ℕ, ◌≤◌, ◌<◌}
use borrow.Author.Tests.{lt-ltb, le-ltb}
use lib.ListN.{get_or}
use lib.Seq.{sets, get_or-take}
use Rattle.answers.specs.declared.Refusal.{Refusal}
use Rattle.answers.specs.declared.Refusal.TheVariants.{Limits}
use Rattle.answers.proofs.Stores.{wrote_refused, wrote_short, wrote_all}
use Rattle.sources.specs.declared.Place.{Place}
use Rattle.sources.specs.Places.{empty_place}
use Rattle.sources.specs.Answers.{or_else}
use Rattle.sources.specs.Checks.{Good}
use Rattle.sources.specs.Tables.{lent, fault_in}
use Rattle.sources.specs.declared.Table.{Table}
use Rattle.sources.proofs.Checking.{told_refused, told_held, passed}
use Rattle.lent.specs.TableWords.{place_words}
use Rattle.lent.proofs.PlaceRuns.{length-place}
use Rattle.capi.specs.Codes.{refusal_code}
use Rattle.capi.specs.Tables.{unheld}
use Rattle.capi.proofs.Answers.{gives}
use Rattle.capi.proofs.tables.put_held.Goals as goal

-- what the check told of a table of which n places are held
module _ (t : Table) (n place : ℕ) (good : Good t n) where
  past : n ≤ place → or_else (fault_in t) (unheld (lent t) place) ≡ Some Limits
  past h = rw (good.kept, ← good.count, le-ltb place n h)

  inside : place < n → or_else (fault_in t) (unheld (lent t) place) ≡ None
  inside h = rw (good.kept, ← good.count, lt-ltb place n h)

  below : place < n → place < 16
  below h = let p = passed t n good in omega (arith, p.most, p.few)

  here : place < n → get_or (lent t) place empty_place ≡ get_or t.places place empty_place
  here h = get_or-take t.count t.places place empty_place (omega (arith, h, (passed t n good).most))

pub returns-then-n-place : goal.returns-then-n-place
returns-then-n-place c =
    let a = c.args in
    let good = told_held a.t (sym c.in-Ok.is ∙ c.check.ensures) in
    gives refusal_code (wrote_refused (place_words (get_or (lent a.t) a.place empty_place)) a.found.now (past a.t _ a.place good c.if-n-place.true)) refl

pub returns-then-found-lt-WORDS : goal.returns-then-found-lt-WORDS
returns-then-found-lt-WORDS c =
    let a = c.args in
    let good = told_held a.t (sym c.in-Ok.is ∙ c.check.ensures) in
    let p = get_or (lent a.t) a.place empty_place in
    gives refusal_code (wrote_short (place_words p) a.found.now (inside a.t _ a.place good c.if-n-place.false)
    (omega (arith, length-place p, c.if-found-lt-WORDS.true)) refl) refl

pub offset_bounds-t-place : goal.offset_bounds-t-place
offset_bounds-t-place c =
    let a = c.args in
    let good = told_held a.t (sym c.in-Ok.is ∙ c.check.ensures) in
    omega (arith, below a.t _ a.place good c.if-n-place.false)

pub bounds-t-place : goal.bounds-t-place
bounds-t-place c =
    let a = c.args in
    let good = told_held a.t (sym c.in-Ok.is ∙ c.check.ensures) in
    below a.t _ a.place good c.if-n-place.false

pub returns-in-Err : goal.returns-in-Err
returns-in-Err c =
    let a = c.args in
    let f = told_refused a.t (sym c.in-Err.is ∙ c.check.ensures) in
    gives refusal_code (wrote_refused (place_words (get_or (lent a.t) a.place empty_place)) a.found.now
    (ap (λ (x : Option Refusal). or_else x (unheld (lent a.t) a.place)) f)) c.number.ensures

pub returns-else-found-lt-WORDS : goal.returns-else-found-lt-WORDS
returns-else-found-lt-WORDS c =
    let a = c.args in
    let good = told_held a.t (sym c.in-Ok.is ∙ c.check.ensures) in
    let h = c.if-n-place.false in
    let p = get_or (lent a.t) a.place empty_place in
    let stored = c.store_place.ensures ∙ ap (λ (q : Place). sets a.found.now 0 (place_words q)) (sym (here a.t _ a.place good h)) in
    gives refusal_code (wrote_all (place_words p) a.found.now (inside a.t _ a.place good h) (omega (arith, length-place p, c.if-found-lt-WORDS.false)) refl
    stored) refl
