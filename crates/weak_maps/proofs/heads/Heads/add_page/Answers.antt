use Rattle.std.proofs.Common.{◌≡◌, ◌≤◌, ◌++◌, ◌∷◌, ◌∙◌, [], ℕ, List, length, replicate, ap, refl, arith}
use Rattle.std.proofs.lemmas.List.{length-replicate}
use Rattle.weak_maps.specs.Heads.{HeadsState, number_at, page_of}
use Rattle.weak_maps.proofs.Numbering.{Comes, head_of-more, number_at-resized, number_at-zeros, page_of-new, pages-more}
use Rattle.weak_maps.proofs.heads.Heads.add_page.Goals as goal
use Rattle.weak_maps.proofs.heads.Heads.add_page.Goals.{After-push_reserved}

abbrev before : After-push_reserved → HeadsState
before c = record { arenas = c.self.inside.arenas.items; pages = c.self.inside.pages.items }

most : (c : After-push_reserved) → length c.self.inside.arenas.items ≤ c.max-arenas.result
most c = omega (arith, c.self.inside.arenas.ok.0, c.len-2.ensures, c.max-arenas.ensures)

sized : (c : After-push_reserved) → length c.resize.new.self.items ≡ c.max-arenas.result
sized c = omega (arith, c.resize.new.self.ok.0, c.in_ok-resize.ensures.len)

same : (c : After-push_reserved) → (b : ℕ) → number_at c.resize.new.self.items b ≡ page_of (before c) b
same c = number_at-resized c.self.inside.arenas.items c.resize.new.self.items c.max-arenas.result (most c) (sized c)
    (λ k d inside less. c.in_ok-resize.ensures.by_index.0 k d inside (omega (arith, c.self.inside.arenas.ok.0, less)))
    (λ k d past inside. c.in_ok-resize.ensures.by_index.1 k d refl
    (omega (arith, c.self.inside.arenas.ok.0, past)) inside)

page : (c : After-push_reserved) → Comes (before c) c.args.arena c.len-page.result c.resize.new.self.items
    (replicate 64 0) c.push_reserved.new.self.items
page c = record {
  are = c.self.invariant;
  none = rw (← c.self.view_is) at c.requires;
  number = omega (arith, c.self.inside.pages.ok.0, c.reserve.ensures.len, c.len-page.ensures);
  comes = c.push_reserved.ensures.items
      ∙ ap (λ (ps : List (List ℕ)). ps ++ replicate 64 0 ∷ []) c.reserve.ensures.items;
  same = same c;
  there = omega (arith, c.len-2.ensures, c.max-arenas.ensures, sized c);
  sized = length-replicate {A = ℕ} 64 0;
  blank = number_at-zeros 64;
}

pub invariant_of-self-2 : goal.invariant_of-self-2
invariant_of-self-2 c =
    pages-more (before c) c.args.arena c.len-page.result c.resize.new.self.items (replicate 64 0)
    c.push_reserved.new.self.items (page c)

pub returns-clause-page : goal.returns-clause-page
returns-clause-page c =
    page_of-new (before c) c.args.arena c.len-page.result c.resize.new.self.items (replicate 64 0)
    c.push_reserved.new.self.items (page c)

pub returns-clause-same : goal.returns-clause-same
returns-clause-same c = λ q.
    rw (← c.self.view_is)
    (head_of-more (before c) c.args.arena c.len-page.result c.resize.new.self.items (replicate 64 0)
    c.push_reserved.new.self.items (page c) q)
