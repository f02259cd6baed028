use Rattle.zone_edges.specs.Looks.{LooksAtNext}
use Rattle.zone_edges.specs.Noted.{Noted}
use Rattle.zone_edges.proofs.Looking.{looks_at, notes_its_edges, notes_nothing}
use Rattle.std.proofs.Common.{subst, refl}
use Rattle.zone_edges.proofs.edges.Edges.edge_unit.Goals as goal

pub returns-in-Some-edge_from-clause-looked : goal.returns-in-Some-edge_from-clause-looked
returns-in-Some-edge_from-clause-looked g c =
    let s = c.self.inside in
    let old : Noted = record {
      zones = s.search.zones;
      sources = s.search.sources;
      stepped = s.stepped;
      cursors = s.cursors;
    } in
    let new : Noted = record {
      zones = c.note_wrapper.new.search.zones;
      sources = c.note_wrapper.new.search.sources;
      stepped = s.stepped;
      cursors = c.next_wrapper.new.cursors;
    } in
    let e = c.in-Some.ensures.some in
    subst (λ (v : Noted). LooksAtNext c.args.heap.now v new) c.self.view_is
    (looks_at c.args.heap.now old new _ _ c.self.invariant.sized e.zone e.next e.wrapper c.note_wrapper.ensures.zones
    e.raised
    (notes_its_edges c.args.heap.now s.search.zones _ _ _ s.search.sources c.note_wrapper.new.search.sources
    c.in-Some-edge_from.ensures.some c.note_wrapper.ensures.edges))

pub note_wrapper-requires-clause-wrapper : goal.note_wrapper-requires-clause-wrapper
note_wrapper-requires-clause-wrapper g c =
    let is = c.in-Some.ensures.some.wrapper in (is.target, (is.kind_is, is.target_is))

pub note_wrapper-requires-clause-from : goal.note_wrapper-requires-clause-from
note_wrapper-requires-clause-from g c = c.in-Some-edge_from.ensures.some.has_from

pub note_wrapper-requires-clause-to : goal.note_wrapper-requires-clause-to
note_wrapper-requires-clause-to g c = c.in-Some-edge_from.ensures.some.has_to

pub returns-in_default-edge_from-clause-looked : goal.returns-in_default-edge_from-clause-looked
returns-in_default-edge_from-clause-looked g c =
    let s = c.self.inside in
    let old : Noted = record {
      zones = s.search.zones;
      sources = s.search.sources;
      stepped = s.stepped;
      cursors = s.cursors;
    } in
    let new : Noted = record {
      zones = s.search.zones;
      sources = s.search.sources;
      stepped = s.stepped;
      cursors = c.next_wrapper.new.cursors;
    } in
    let e = c.in-Some.ensures.some in
    subst (λ (v : Noted). LooksAtNext c.args.heap.now v new) c.self.view_is
    (looks_at c.args.heap.now old new _ _ c.self.invariant.sized e.zone e.next e.wrapper refl e.raised
    (notes_nothing c.args.heap.now s.search.zones _ s.search.sources c.in_default-edge_from.ensures.none))
