use Rattle.std.proofs.Common.{rules, ◌≡◌, ◌+◌, ℕ, List, ◌++◌, length, All, sym, ap, subst, ◌∙◌, arith}
use Rattle.std.proofs.lemmas.List.Elements.{All-contains_itself, All-weaker, All-same}
use Rattle.mark_words.specs.Seats.{first_of, view_of}
use Rattle.mark_words.specs.Sums.{weigh}
use Rattle.mark_words.proofs.Counts.{weigh-append}
use Rattle.par_mark.specs.Lists.{tries_of}
use Rattle.par_mark.specs.Edges.{all_targets}
use Rattle.par_mark.specs.Queues.{pass_view}
use Rattle.par_mark.specs.Shares.{AreShared}
use Rattle.par_mark.proofs.Cells.{weigh-all_targets}
use Rattle.par_mark.proofs.Reaching.{serves, tries_sought, marked, front_all, back_all}
use Rattle.par_mark.proofs.Scanning.{weigh-one}
use Rattle.par_mark.proofs.callers.mark.Goals as goal

pub mark_from-requires-clause-serves : goal.mark_from-requires-clause-serves
mark_from-requires-clause-serves g c κs within =
    serves (g.H.Graph.edge c.args.heap.now) (g.H.Graph.marking c.args.heap.now) (first_of c.args.marks.now)
    c.args.from.now (g.H.Graph.has c.args.heap.now) c.requires.present c.requires.targets g.L.PlaceList.places
    c.requires.listed c.requires.lists c.requires.words

pub mark_from-requires-clause-front_listed : goal.mark_from-requires-clause-front_listed
mark_from-requires-clause-front_listed g c κs within =
    let edge = g.H.Graph.edge c.args.heap.now in
    let marking = g.H.Graph.marking c.args.heap.now in
    let P = g.L.PlaceList.places in
    let first : List ℕ = first_of c.args.marks.now in
    let from : List (ℕ × ℕ) = c.args.from.now in
    let front : List (ℕ × ℕ) = tries_of c.in_ok-front.front in
    let back : List (ℕ × ℕ) = tries_of c.in_ok-back.back in
    let is : front ++ back ≡ all_targets edge from =
    (λ i. c.in_ok-front.ensures.tries_are i ++ c.in_ok-back.ensures.tries_are i)
    ∙ sym c.split_at.ensures.by_index.0 ∙ c.as_slice.ensures.value ∙ c.in_ok-tries.ensures in
    let all : All P (front ++ back) = All-same P (front ++ back) (all_targets edge from) is
    (tries_sought edge marking first from P c.requires.lists from (All-contains_itself from)) in
    front_all P front back all

pub mark_from-requires-clause-back_listed : goal.mark_from-requires-clause-back_listed
mark_from-requires-clause-back_listed g c κs within =
    let edge = g.H.Graph.edge c.args.heap.now in
    let marking = g.H.Graph.marking c.args.heap.now in
    let P = g.L.PlaceList.places in
    let first : List ℕ = first_of c.args.marks.now in
    let from : List (ℕ × ℕ) = c.args.from.now in
    let front : List (ℕ × ℕ) = tries_of c.in_ok-front.front in
    let back : List (ℕ × ℕ) = tries_of c.in_ok-back.back in
    let is : front ++ back ≡ all_targets edge from =
    (λ i. c.in_ok-front.ensures.tries_are i ++ c.in_ok-back.ensures.tries_are i)
    ∙ sym c.split_at.ensures.by_index.0 ∙ c.as_slice.ensures.value ∙ c.in_ok-tries.ensures in
    let all : All P (front ++ back) = All-same P (front ++ back) (all_targets edge from) is
    (tries_sought edge marking first from P c.requires.lists from (All-contains_itself from)) in
    back_all P front back all

pub mark_from-requires-clause-room : goal.mark_from-requires-clause-room
mark_from-requires-clause-room g c κs within =
    let more : c.in_ok-spare.spare ≡ c.in_ok-room.room + 1 = search rules in
    let f = c.in_ok-front.ensures in
    let b = c.in_ok-back.ensures in (
      c.in_ok-room.room,
      record {
        tries_are = λ i. tries_of c.in_ok-front.front;
        no_won = f.no_won;
        no_outside = f.no_outside;
        tries_have = f.tries_have;
        won_has = f.won_has;
        outside_has = (let has = f.outside_has in omega (arith, has, more));
      },
      record {
        tries_are = λ i. tries_of c.in_ok-back.back;
        no_won = b.no_won;
        no_outside = b.no_outside;
        tries_have = b.tries_have;
        won_has = b.won_has;
        outside_has = (let has = b.outside_has in omega (arith, has, more));
      },
      λ ps once all.
          let edge = g.H.Graph.edge c.args.heap.now in
          let marking = g.H.Graph.marking c.args.heap.now in
          let P = g.L.PlaceList.places in
          let first : List ℕ = first_of c.args.marks.now in
          let from : List (ℕ × ℕ) = c.args.from.now in
          let front : List (ℕ × ℕ) = tries_of c.in_ok-front.front in
          let back : List (ℕ × ℕ) = tries_of c.in_ok-back.back in
          let is : front ++ back ≡ all_targets edge from =
          (λ i. c.in_ok-front.ensures.tries_are i ++ c.in_ok-back.ensures.tries_are i)
          ∙ sym c.split_at.ensures.by_index.0 ∙ c.as_slice.ensures.value ∙ c.in_ok-tries.ensures in
          let s = serves edge marking first from (g.H.Graph.has c.args.heap.now) c.requires.present c.requires.targets P
          c.requires.listed c.requires.lists c.requires.words in
          let m = c.most_edges.ensures ps once (All-weaker P (g.H.Graph.has c.args.heap.now) s.here ps all) in
          let w = weigh-append (λ _. 1) front back in
          let l = weigh-one (front ++ back) in
          let k : length (front ++ back) ≡ length c.in_ok-tries.tries.items =
          ap length (is ∙ sym c.in_ok-tries.ensures) in
          let o = c.in_ok-tries.tries.ok.0 in
          let sum : c.in_ok-room.room ≡ c.in_ok-tries.tries.len + c.most_edges.result = search rules in omega arith,
    )

pub returns-clause-marked : goal.returns-clause-marked
returns-clause-marked g c =
    let edge = g.H.Graph.edge c.args.heap.now in
    let marking = g.H.Graph.marking c.args.heap.now in
    let P = g.L.PlaceList.places in
    let first : List ℕ = first_of c.args.marks.now in
    let from : List (ℕ × ℕ) = c.args.from.now in
    let front : List (ℕ × ℕ) = tries_of c.in_ok-front.front in
    let back : List (ℕ × ℕ) = tries_of c.in_ok-back.back in
    let is : front ++ back ≡ all_targets edge from =
    (λ i. c.in_ok-front.ensures.tries_are i ++ c.in_ok-back.ensures.tries_are i)
    ∙ sym c.split_at.ensures.by_index.0 ∙ c.as_slice.ensures.value ∙ c.in_ok-tries.ensures in
    marked edge marking first from P c.requires.listed (front ++ back) c.mark_from.result.items
    (view_of c.mark_from.new.seat) c.mark_from.ensures.accounts
    (λ h. ap (weigh h) is ∙ weigh-all_targets edge h from)
    c.mark_from.ensures.seat.0.1

pub returns-clause-shares : goal.returns-clause-shares
returns-clause-shares g c =
    let edge = g.H.Graph.edge c.args.heap.now in
    let from : List (ℕ × ℕ) = c.args.from.now in
    let front : List (ℕ × ℕ) = tries_of c.in_ok-front.front in
    let back : List (ℕ × ℕ) = tries_of c.in_ok-back.back in
    let is : front ++ back ≡ all_targets edge from =
    (λ i. c.in_ok-front.ensures.tries_are i ++ c.in_ok-back.ensures.tries_are i)
    ∙ sym c.split_at.ensures.by_index.0 ∙ c.as_slice.ensures.value ∙ c.in_ok-tries.ensures in
    subst (λ (firsts : List (ℕ × ℕ)). AreShared edge firsts c.mark_from.result.items (view_of c.mark_from.new.seat)
    (pass_view c.mark_from.new.queue)) is
    c.mark_from.ensures.shares
