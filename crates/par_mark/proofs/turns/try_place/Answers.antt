use Rattle.std.proofs.Common.{rules, ◌≡◌, ◌+◌, ◌-◌, ℕ, List, length, refl, ap, subst, ◌∙◌, arith}
use Rattle.std.specs.VecDeque.{deque_len}
use Rattle.crossbeam_utils.specs.Padded.{padded_with_value}
use Rattle.mark_words.specs.Seats.{view_of}
use Rattle.par_mark.specs.Lists.{tries_of}
use Rattle.par_mark.specs.Slots.{AreGathered}
use Rattle.par_mark.specs.States.{state_of}
use Rattle.par_mark.specs.Tries.{within}
use Rattle.par_mark.proofs.Trying.{IsGathering, gathered_listed, few_won, shorter, made_step}
use Rattle.par_mark.proofs.turns.try_place.Goals as goal

pub try_slots-won-requires-clause-listed : goal.try_slots-won-requires-clause-listed
try_slots-won-requires-clause-listed g c =
    let gathered : AreGathered c.args.place c.args.most (tries_of c.args.lists.now) c.gather_slots-slots.new.tries.items
    c.gather_slots-slots.result = subst (λ (v : List (ℕ × ℕ)). AreGathered c.args.place c.args.most v
    c.gather_slots-slots.new.tries.items c.gather_slots-slots.result) (ap (λ v. v.items) c.deref_mut.ensures.value)
    c.gather_slots-slots.ensures.gathered in
    gathered_listed g.L.PlaceList.places c.args.place c.args.most c.arena-arena.result c.gather_slots-slots.result
    (tries_of c.args.lists.now) c.gather_slots-slots.new.tries.items
    record { gathered = gathered; arena_is = c.arena-arena.ensures } c.requires.place c.requires.listed

pub push_slots-requires : goal.push_slots-requires
push_slots-requires g c =
    let gathered : AreGathered c.args.place c.args.most (tries_of c.args.lists.now) c.gather_slots-slots.new.tries.items
    c.gather_slots-slots.result = subst (λ (v : List (ℕ × ℕ)). AreGathered c.args.place c.args.most v
    c.gather_slots-slots.new.tries.items c.gather_slots-slots.result) (ap (λ v. v.items) c.deref_mut.ensures.value)
    c.gather_slots-slots.ensures.gathered in
    let gathering : IsGathering c.args.place c.args.most c.arena-arena.result c.gather_slots-slots.result
    (tries_of c.args.lists.now) c.gather_slots-slots.new.tries.items =
    record { gathered = gathered; arena_is = c.arena-arena.ensures } in
    let f = few_won c.args.place c.args.most c.arena-arena.result c.gather_slots-slots.result c.try_slots-won.result
    (tries_of c.args.lists.now) c.gather_slots-slots.new.tries.items gathering c.try_slots-won.ensures.within in
    let k = few_won c.args.place c.args.most c.arena-arena.result c.gather_slots-slots.result
    c.gather_slots-slots.result (tries_of c.args.lists.now) c.gather_slots-slots.new.tries.items gathering
    (λ i. omega arith) in
    let r = c.requires.won_room in omega arith

pub overflow_sub-result : goal.overflow_sub-result
overflow_sub-result g c =
    let gathered : AreGathered c.args.place c.args.most (tries_of c.args.lists.now) c.gather_slots-slots.new.tries.items
    c.gather_slots-slots.result = subst (λ (v : List (ℕ × ℕ)). AreGathered c.args.place c.args.most v
    c.gather_slots-slots.new.tries.items c.gather_slots-slots.result) (ap (λ v. v.items) c.deref_mut.ensures.value)
    c.gather_slots-slots.ensures.gathered in
    let s = shorter c.args.place c.args.most c.gather_slots-slots.result (tries_of c.args.lists.now)
    c.gather_slots-slots.new.tries.items gathered in
    let a = s.0 in
    let b = s.1 in
    let l : c.len-before.result ≡ length (tries_of c.args.lists.now) =
    (let o = c.deref.result.now.ok.0 in let e = ap (λ v. length v.items) c.deref.ensures in omega arith) in
    let k : c.len.result ≡ length c.gather_slots-slots.new.tries.items =
    (let o = c.gather_slots-slots.new.tries.ok.0 in let e = ap (λ v. deque_len v) c.deref-2.ensures in omega arith) in
    omega arith

pub returns-clause-made : goal.returns-clause-made
returns-clause-made g c =
    let gathered : AreGathered c.args.place c.args.most (tries_of c.args.lists.now) c.gather_slots-slots.new.tries.items
    c.gather_slots-slots.result = subst (λ (v : List (ℕ × ℕ)). AreGathered c.args.place c.args.most v
    c.gather_slots-slots.new.tries.items c.gather_slots-slots.result) (ap (λ v. v.items) c.deref_mut.ensures.value)
    c.gather_slots-slots.ensures.gathered in
    let s = shorter c.args.place c.args.most c.gather_slots-slots.result (tries_of c.args.lists.now)
    c.gather_slots-slots.new.tries.items gathered in
    let a = s.0 in
    let b = s.1 in
    let l : c.len-before.result ≡ length (tries_of c.args.lists.now) =
    (let o = c.deref.result.now.ok.0 in let e = ap (λ v. length v.items) c.deref.ensures in omega arith) in
    let k : c.len.result ≡ length c.gather_slots-slots.new.tries.items =
    (let o = c.gather_slots-slots.new.tries.ok.0 in let e = ap (λ v. deque_len v) c.deref-2.ensures in omega arith) in
    ((omega arith), (omega arith))

pub returns-clause-tried : goal.returns-clause-tried
returns-clause-tried g c = λ d.
    let gathered : AreGathered c.args.place c.args.most (tries_of c.args.lists.now) c.gather_slots-slots.new.tries.items
    c.gather_slots-slots.result = subst (λ (v : List (ℕ × ℕ)). AreGathered c.args.place c.args.most v
    c.gather_slots-slots.new.tries.items c.gather_slots-slots.result) (ap (λ v. v.items) c.deref_mut.ensures.value)
    c.gather_slots-slots.ensures.gathered in
    let s = shorter c.args.place c.args.most c.gather_slots-slots.result (tries_of c.args.lists.now)
    c.gather_slots-slots.new.tries.items gathered in
    let a = s.0 in
    let b = s.1 in
    let l : c.len-before.result ≡ length (tries_of c.args.lists.now) =
    (let o = c.deref.result.now.ok.0 in let e = ap (λ v. length v.items) c.deref.ensures in omega arith) in
    let k : c.len.result ≡ length c.gather_slots-slots.new.tries.items =
    (let o = c.gather_slots-slots.new.tries.ok.0 in let e = ap (λ v. deque_len v) c.deref-2.ensures in omega arith) in
    within (made_step (g.H.Graph.marking c.args.heap.now) c.args.place c.args.most c.arena-arena.result
    c.gather_slots-slots.result c.try_slots-won.result (c.len-before.result - c.len.result + 1)
    (state_of c.args.lists.now (view_of c.args.seat.now) d)
    (state_of record {
      tries = padded_with_value c.args.lists.now.tries c.gather_slots-slots.new.tries;
      won = c.push_slots.new.list;
      outside = c.args.lists.now.outside;
    } (view_of c.try_slots-won.new.seat) d)
    record {
      gathering = record { gathered = gathered; arena_is = c.arena-arena.ensures };
      won_slots = c.try_slots-won.ensures.within;
      wins = c.try_slots-won.ensures.tried;
      inside = λ i. c.is_marking.ensures i ∙ search rules;
      won_is = c.push_slots.ensures.items;
      outside_is = refl;
      pass_is = refl;
      count = omega arith;
    })
