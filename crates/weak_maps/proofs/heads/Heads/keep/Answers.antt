use Rattle.std.proofs.Common.{◌≡◌, ◌<◌, ◌∙◌, length, refl, sym, ap, cond, Some, slice_get, arith}
use Rattle.std.proofs.lemmas.Option.{slice_get_read}
use Rattle.weak_maps.specs.Places.{is_same}
use Rattle.weak_maps.specs.Heads.{HeadsState, head_of, number_from, page_of}
use Rattle.weak_maps.proofs.Numbering.{head_of-put}
use Rattle.weak_maps.proofs.heads.Heads.keep.Goals as goal

pub returns-clause-ok : goal.returns-clause-ok
returns-clause-ok c = λ q.
    let heads : HeadsState = record { arenas = c.self.inside.arenas.items; pages = c.self.inside.pages.items } in
    let has : page_of heads c.args.place.0 ≡ Some c.in_ok-page.page =
    ap (λ (h : HeadsState). page_of h c.args.place.0) c.self.view_is
    ∙ (ap (page_of c.page_for.new.self) (sym c.arena.ensures) ∙ c.in_ok-page.ensures.page) in
    let inside : c.in_ok-page.page < length heads.pages =
    c.self.invariant.within c.args.place.0 c.in_ok-page.page has in
    let read : slice_get heads.pages c.in_ok-page.page ≡ Some c.index_mut.result.now =
    slice_get_read heads.pages (length heads.pages) c.in_ok-page.page c.index_mut.result.now refl inside
    c.index_mut.ensures.value in
    let sized = c.self.invariant.sized c.in_ok-page.page c.index_mut.result.now read in
    head_of-put heads c.args.place c.args.number c.in_ok-page.page c.slot.result c.index_mut.result.now
    (record {
      are = c.self.invariant;
      has = has;
      read = read;
      slot_is = c.slot.ensures.value;
      within = omega (arith, sized, c.slot.ensures.value, c.slot.ensures.below);
    }) q
    ∙ ap (cond (is_same c.args.place q) (number_from c.args.number))
    (ap (λ (h : HeadsState). head_of h q) c.self.view_is ∙ c.in_ok-page.ensures.same q)
