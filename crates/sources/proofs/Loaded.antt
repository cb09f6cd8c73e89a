-- What a call on a table by value says of the slice that the table was taken from. Assumes nothing.
use Rattle.std.specs.Prelude.{Option, Some, None, Result}
use Rattle.answers.specs.declared.Unwritten.{Unwritten}
use mathlib.Core.Path.{◌≡◌, refl, sym, ap, ◌∙◌}
use mathlib.Core.Bool.{Bool, true, false, cond}
use mathlib.Core.List.{List, [], ◌∷◌, ◌++◌}
use Prim.Native.Nat.{ℕ, suc, ◌≤◌}
use native.Mathlib.Omega.{arith}
use borrow.Author.Tests.{ltb-true, lt-leb}
use lib.Dec.{ltb, eqb}
use lib.ListN.{length, drop, length-append, length-take}
use lib.Seq.{take_at}
use Rattle.answers.specs.declared.Refusal.{Refusal}
use Rattle.answers.specs.declared.Refusal.TheVariants.{Rules}
use Rattle.answers.specs.Writers.{written, stored as storedBy, Wrote}
use Rattle.answers.proofs.Stores.{wrote_same}
use Rattle.format.specs.declared.Wire.{Wire}
use Rattle.sources.specs.declared.Place.{Place}
use Rattle.sources.specs.declared.Table.{Table}
use Rattle.sources.specs.declared.TableArrived.{TableArrived}
use Rattle.sources.specs.declared.TableCounted.{TableCounted}
use Rattle.sources.specs.Places.{held_of, rest_of}
use Rattle.sources.specs.Rules.{most_places, fault}
use Rattle.sources.specs.Stands.{put, with_place}
use Rattle.sources.specs.Answers.{refusal, kept, arrive_answer, arrive_places, count_answer, count_places}
use Rattle.sources.specs.Compounds.{compound_bytes}
use Rattle.sources.specs.Tables.{empty_table, lent, with_lent, over, fault_in, arrived_in, counted_in, loaded}
use Rattle.sources.proofs.Fronts.{front_rest}
use Rattle.sources.proofs.Checking.{fault_rule}

-- ---- a call keeps the number of places

pub put_long : (p : Place) (ps : List Place) → length ps ≤ length (put p ps)
unfolding put
put_long p [] = omega arith
put_long p (q ∷ qs) = go (ltb q.ssrc p.ssrc) (eqb q.ssrc p.ssrc) (put_long p qs)
  where
    go : (l e : Bool) → length qs ≤ length (put p qs) → suc (length qs) ≤ length (cond l (q ∷ put p qs) (p ∷ cond e qs (q ∷ qs)))
    go true e h = omega arith
    go false true h = omega arith
    go false false h = omega arith

pub with_long : (p : Place) (ps : List Place) → length (with_place p ps) ≡ length ps
unfolding with_place
with_long p ps =
    let more = put_long p (held_of ps) in
    let all = ap length (front_rest ps) in
    length-take (length ps) (put p (held_of ps) ++ rest_of ps)
    ∙ omega (arith, length-append (put p (held_of ps)) (rest_of ps), length-append (held_of ps) (rest_of ps), all)

kept_long : (r : Option Refusal) (p : Place) (ps : List Place) → length (kept r ps (with_place p ps)) ≡ length ps
kept_long (Some refusal) p ps = refl
kept_long None p ps = with_long p ps

pub arrive_long : (ps : List Place) (ssrc : ℕ) (wire : Wire) (mark : ℕ) → length (arrive_places ps ssrc wire mark) ≡ length ps
unfolding arrive_places
arrive_long ps ssrc wire mark = kept_long (refusal (ltb 3 mark) ssrc ps) _ ps

pub count_long : (ps : List Place) (ssrc width : ℕ) (bytes : List ℕ) → length (count_places ps ssrc width bytes) ≡ length ps
unfolding count_places
count_long ps ssrc width bytes = kept_long (refusal _ ssrc ps) _ ps

-- ---- the table of a slice

module _ (ps : List Place) where
  pub loaded_count : (loaded ps).count ≡ length ps
  unfolding loaded
  loaded_count = go (ltb most_places (length ps))
    where
      go : (b : Bool) → (cond b (empty_table (length ps)) (with_lent (empty_table (length ps)) ps)).count ≡ length ps
      go true = refl
      go false = refl

  module _ (o : ltb most_places (length ps) ≡ true) where
    over_loaded : over (loaded ps) ≡ true
    over_loaded = ap (ltb most_places) loaded_count ∙ o

    pub over_fault : fault ps ≡ Some Rules
    over_fault = fault_rule ps 0 (lt-leb (length ps) most_places (ltb-true most_places (length ps) o))

  module _ (o : ltb most_places (length ps) ≡ false) where
    pub few_loaded : over (loaded ps) ≡ false
    few_loaded = ap (ltb most_places) loaded_count ∙ o

    pub few_lent : lent (loaded ps) ≡ ps
    unfolding loaded
    few_lent = rw o (take_at ps (drop (length ps) (empty_table (length ps)).places) (length ps) refl)

    pub few_fault : fault_in (loaded ps) ≡ fault ps
    unfolding fault_in
    few_fault = rw few_loaded (ap fault few_lent)

    -- as many other places
    pub few_behind : (qs : List Place) → length qs ≡ length ps → lent (with_lent (loaded ps) qs) ≡ qs
    few_behind qs e = take_at qs _ (loaded ps).count (e ∙ sym loaded_count)

-- ---- one arrival

module _ (ps : List Place) (ssrc : ℕ) (wire : Wire) (mark : ℕ) where
  pub record ArrivedBack (r : TableArrived) : Type 0 where
    pub answer : r.answer ≡ arrive_answer ps ssrc wire mark

  back_over : ltb most_places (length ps) ≡ true → ArrivedBack (arrived_in (loaded ps) ssrc wire mark)
  unfolding arrived_in arrive_answer arrive_places refusal
  back_over o =
      rw (over_loaded ps o) (record { answer = rw (over_fault ps o) })

  back_few : ltb most_places (length ps) ≡ false → ArrivedBack (arrived_in (loaded ps) ssrc wire mark)
  unfolding arrived_in
  back_few o =
      rw (few_loaded ps o, few_lent ps o)
      (record { answer = refl })

  back : ArrivedBack (arrived_in (loaded ps) ssrc wire mark)
  back = go (ltb most_places (length ps)) refl
    where
      go : (b : Bool) → ltb most_places (length ps) ≡ b → ArrivedBack (arrived_in (loaded ps) ssrc wire mark)
      go true o = back_over o
      go false o = back_few o

  -- the places in use behind the call
  pub arrived_lent : ltb most_places (length ps) ≡ false → lent (arrived_in (loaded ps) ssrc wire mark).table ≡ arrive_places ps ssrc wire mark
  unfolding arrived_in
  arrived_lent o = rw (few_loaded ps o, few_lent ps o) (few_behind ps o (arrive_places ps ssrc wire mark) (arrive_long ps ssrc wire mark))

  pub arrived_back : (t : Table) (r : TableArrived) → t ≡ loaded ps → r ≡ arrived_in t ssrc wire mark → ArrivedBack r
  arrived_back t r et er = rw (er, et) back

-- ---- a block

module _ (ps : List Place) (ssrc width : ℕ) (bytes : List ℕ) where
  pub record CountedBack (r : TableCounted) : Type 0 where
    pub answer : r.answer ≡ count_answer ps ssrc width bytes

  block_over : ltb most_places (length ps) ≡ true → CountedBack (counted_in (loaded ps) ssrc width bytes)
  unfolding counted_in count_answer count_places refusal
  block_over o =
      rw (over_loaded ps o) (record { answer = rw (over_fault ps o) })

  block_few : ltb most_places (length ps) ≡ false → CountedBack (counted_in (loaded ps) ssrc width bytes)
  unfolding counted_in
  block_few o =
      rw (few_loaded ps o, few_lent ps o)
      (record { answer = refl })

  block : CountedBack (counted_in (loaded ps) ssrc width bytes)
  block = go (ltb most_places (length ps)) refl
    where
      go : (b : Bool) → ltb most_places (length ps) ≡ b → CountedBack (counted_in (loaded ps) ssrc width bytes)
      go true o = block_over o
      go false o = block_few o

  -- the places in use behind the call
  pub counted_lent : ltb most_places (length ps) ≡ false → lent (counted_in (loaded ps) ssrc width bytes).table ≡ count_places ps ssrc width bytes
  unfolding counted_in
  counted_lent o = rw (few_loaded ps o, few_lent ps o) (few_behind ps o (count_places ps ssrc width bytes) (count_long ps ssrc width bytes))

  pub counted_back : (t : Table) (r : TableCounted) → t ≡ loaded ps → r ≡ counted_in t ssrc width bytes → CountedBack r
  counted_back t r et er = rw (er, et) block

-- ---- the compound

-- where the values are refused, the bytes do not matter
refused_any : (r : Refusal) (new bytes old : List ℕ) {answer : Result ℕ Unwritten} {out : List ℕ} → Wrote (Some r) new old answer out → Wrote (Some r) bytes old answer out
unfolding written storedBy
refused_any r new bytes old w = record { answers = w.answers; stores = w.stores }

module _ (ps : List Place) (sender : ℕ) (old : List ℕ) {answer : Result ℕ Unwritten} {out : List ℕ} where
  compound_over : ltb most_places (length ps) ≡ true → Wrote (fault_in (loaded ps)) (compound_bytes sender (lent (loaded ps))) old answer out
      → Wrote (fault ps) (compound_bytes sender ps) old answer out
  unfolding fault_in
  compound_over o w = rw (over_fault ps o) (refused_any Rules (compound_bytes sender (lent (loaded ps))) (compound_bytes sender ps) old (rw (over_loaded ps o) at w))

  compound_few : ltb most_places (length ps) ≡ false → Wrote (fault_in (loaded ps)) (compound_bytes sender (lent (loaded ps))) old answer out
      → Wrote (fault ps) (compound_bytes sender ps) old answer out
  compound_few o w = wrote_same (few_fault ps o) (ap (compound_bytes sender) (few_lent ps o)) w

  pub compound_back : (t : Table) → t ≡ loaded ps → Wrote (fault_in t) (compound_bytes sender (lent t)) old answer out → Wrote (fault ps) (compound_bytes sender ps) old answer out
  compound_back t et w = go (ltb most_places (length ps)) refl (rw et at w)
    where
      go : (b : Bool) → ltb most_places (length ps) ≡ b → Wrote (fault_in (loaded ps)) (compound_bytes sender (lent (loaded ps))) old answer out
          → Wrote (fault ps) (compound_bytes sender ps) old answer out
      go true o w = compound_over o w
      go false o w = compound_few o w
