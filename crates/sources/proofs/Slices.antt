-- What the calls say of a lent slice of places, which is a table whose places are all in use. Assumes nothing.
use Rattle.std.specs.Prelude.{Some, Result}
use Rattle.answers.specs.declared.Refusal.{Refusal}
use mathlib.Core.Path.{◌≡◌, refl, sym, ap, subst, ◌∙◌}
use mathlib.Core.Bool.{Bool, true, false, cond}
use mathlib.Core.List.{List, ◌++◌, append-nil}
use Prim.Native.Nat.{ℕ, ◌≤◌}
use native.Mathlib.Omega.{arith}
use lib.ListN.{length, drop, drop_of_length-le}
use lib.Seq.{take-length}
use Rattle.answers.specs.declared.Refusal.TheVariants.{Rules}
use Rattle.format.specs.declared.Wire.{Wire}
use Rattle.sources.specs.declared.Place.{Place}
use Rattle.sources.specs.declared.Table.{Table}
use Rattle.sources.specs.declared.TableArrived.{TableArrived}
use Rattle.sources.specs.declared.TableCounted.{TableCounted}
use Rattle.sources.specs.declared.calls.Arriving.{Arriving}
use Rattle.sources.specs.declared.calls.Counting.{Counting}
use Rattle.sources.specs.declared.finding.Seen.{Seen}
use Rattle.sources.specs.Places.{held_of}
use Rattle.sources.specs.Rules.{fault}
use Rattle.sources.specs.Answers.{refusal, arrive_answer, arrive_places, count_answer, count_places}
use Rattle.sources.specs.Tables.{lent, over, fault_in, arrived_in, counted_in}
use Rattle.sources.specs.Checks.{checked_by, checked, checked_in}
use Rattle.sources.specs.Seeing.{seen_in, checked_seen}
use Rattle.sources.specs.Changes.{changed, arriving, counting}
use Rattle.sources.proofs.Loaded.{over_fault}
use Rattle.sources.proofs.Calling.{checked_seen_lem, arrives, block_counts}

module _ (ps : List Place) where
  abbrev all_used : Table
  all_used = record { places = ps; count = length ps }

  lent_all : lent all_used ≡ ps
  lent_all = take-length ps

  none_left : (qs : List Place) → qs ++ drop (length ps) ps ≡ qs
  none_left qs = ap (λ (rs : List Place). qs ++ rs) (drop_of_length-le ps {i = length ps} (omega arith)) ∙ append-nil qs

  long : over all_used ≡ false → length ps ≤ length ps
  long o = omega arith

  -- ---- the check

  checked_all : checked_in all_used ≡ checked ps
  unfolding checked_in fault_in
  checked_all = go (over all_used) refl
    where
      go : (b : Bool) → over all_used ≡ b → checked_by (cond b (Some Rules) (fault (lent all_used))) (length (held_of (lent all_used))) ≡ checked_by (fault ps) (length (held_of ps))
      go true o = ap (λ f. checked_by f (length (held_of ps))) (sym (over_fault ps o))
      go false o = ap (λ (qs : List Place). checked_by (fault qs) (length (held_of qs))) lent_all

  pub check_here : (s : Seen) (r : Result ℕ Refusal) → s ≡ seen_in 0 (length ps) ps → r ≡ checked_seen s → r ≡ checked ps
  check_here s r es er = er ∙ ap checked_seen es ∙ checked_seen_lem 0 all_used ∙ checked_all

  -- ---- one arrival

  module _ (ssrc : ℕ) (wire : Wire) (mark : ℕ) where
    pub record ArrivedHere (r : Arriving) : Type 0 where
      pub answer : r.answer ≡ arrive_answer ps ssrc wire mark
      pub places : changed r.change ps ≡ arrive_places ps ssrc wire mark
      pub within : r.change.end ≤ length ps

    over_arrived : over all_used ≡ true → arrived_in all_used ssrc wire mark ≡ record { table = record { places = arrive_places ps ssrc wire mark; count = length ps }; answer = arrive_answer ps ssrc wire mark }
    unfolding arrived_in arrive_answer arrive_places refusal
    over_arrived o = rw (o, over_fault ps o)

    few_arrived : over all_used ≡ false → arrived_in all_used ssrc wire mark ≡ record { table = record { places = arrive_places ps ssrc wire mark; count = length ps }; answer = arrive_answer ps ssrc wire mark }
    unfolding arrived_in
    few_arrived o =
        rw o
        (λ i. record {
          table = record {
            places = (ap (λ (qs : List Place). arrive_places qs ssrc wire mark ++ drop (length ps) ps) lent_all ∙ none_left (arrive_places ps ssrc wire mark)) i;
            count = length ps;
          };
          answer = arrive_answer (lent_all i) ssrc wire mark;
        })

    all_arrived : arrived_in all_used ssrc wire mark ≡ record { table = record { places = arrive_places ps ssrc wire mark; count = length ps }; answer = arrive_answer ps ssrc wire mark }
    all_arrived = go (over all_used) refl
      where
        go : (b : Bool) → over all_used ≡ b → arrived_in all_used ssrc wire mark ≡ record { table = record { places = arrive_places ps ssrc wire mark; count = length ps }; answer = arrive_answer ps ssrc wire mark }
        go true o = over_arrived o
        go false o = few_arrived o

    pub arrive_here : (s : Seen) (r : Arriving) → s ≡ seen_in ssrc (length ps) ps → r ≡ arriving s ssrc wire mark → ArrivedHere r
    arrive_here s r es er =
        let a = arrives ssrc all_used long wire mark in
        subst ArrivedHere (sym (er ∙ ap (λ (u : Seen). arriving u ssrc wire mark) es))
        (record {
          answer = ap (λ (t : TableArrived). t.answer) (a.is ∙ all_arrived);
          places = ap (λ (t : TableArrived). t.table.places) (a.is ∙ all_arrived);
          within = a.within;
        })

  -- ---- a block

  module _ (ssrc width : ℕ) (bytes : List ℕ) where
    pub record CountedHere (r : Counting) : Type 0 where
      pub answer : r.answer ≡ count_answer ps ssrc width bytes
      pub places : changed r.change ps ≡ count_places ps ssrc width bytes
      pub within : r.change.end ≤ length ps

    over_counted : over all_used ≡ true → counted_in all_used ssrc width bytes ≡ record { table = record { places = count_places ps ssrc width bytes; count = length ps }; answer = count_answer ps ssrc width bytes }
    unfolding counted_in count_answer count_places refusal
    over_counted o = rw (o, over_fault ps o)

    few_counted : over all_used ≡ false → counted_in all_used ssrc width bytes ≡ record { table = record { places = count_places ps ssrc width bytes; count = length ps }; answer = count_answer ps ssrc width bytes }
    unfolding counted_in
    few_counted o =
        rw o
        (λ i. record {
          table = record {
            places = (ap (λ (qs : List Place). count_places qs ssrc width bytes ++ drop (length ps) ps) lent_all ∙ none_left (count_places ps ssrc width bytes)) i;
            count = length ps;
          };
          answer = count_answer (lent_all i) ssrc width bytes;
        })

    all_counted : counted_in all_used ssrc width bytes ≡ record { table = record { places = count_places ps ssrc width bytes; count = length ps }; answer = count_answer ps ssrc width bytes }
    all_counted = go (over all_used) refl
      where
        go : (b : Bool) → over all_used ≡ b → counted_in all_used ssrc width bytes ≡ record { table = record { places = count_places ps ssrc width bytes; count = length ps }; answer = count_answer ps ssrc width bytes }
        go true o = over_counted o
        go false o = few_counted o

    pub count_here : (s : Seen) (r : Counting) → s ≡ seen_in ssrc (length ps) ps → r ≡ counting s ssrc width bytes → CountedHere r
    count_here s r es er =
        let a = block_counts ssrc all_used long width bytes in
        subst CountedHere (sym (er ∙ ap (λ (u : Seen). counting u ssrc width bytes) es))
        (record {
          answer = ap (λ (t : TableCounted). t.answer) (a.is ∙ all_counted);
          places = ap (λ (t : TableCounted). t.table.places) (a.is ∙ all_counted);
          within = a.within;
        })
