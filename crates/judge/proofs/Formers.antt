-- What the former graph becomes.
use Rattle.std.proofs.Common.{◌≡◌, ◌∙◌, true, false, List, [], ◌∷◌, ◌++◌, refl, sym, ap}
use Rattle.colour_defs.specs.Graph.{GraphState}
use Rattle.judge.specs.Former.{IsFormer, Releases, Takes, changed, graph_by, kept_of}
use Rattle.judge.specs.declared.former.Former.{Former}
use Rattle.judge.specs.declared.former.Change.{Change}
use Rattle.judge.specs.declared.former.Kept.{Kept}

by_more : (g : GraphState) (ks : List Kept) (k : Kept) → graph_by g (ks ++ k ∷ []) ≡ changed (graph_by g ks) k.change
by_more g [] k = refl
by_more g (c ∷ ks) k = by_more (changed g c.change) ks k

-- a change is kept
pub takes_kept : (old new : Former) (k : Change) → old.is_kept ≡ true → new.is_kept ≡ old.is_kept
    → new.graph ≡ old.graph → new.kept.items ≡ old.kept.items ++ kept_of k ∷ [] → Takes k old new
takes_kept old new k kept same graph more = record {
  former = λ g is. record {
    leads = ap (λ (h : GraphState). graph_by h new.kept.items) graph
        ∙ ap (graph_by old.graph) more
        ∙ by_more old.graph old.kept.items (kept_of k)
        ∙ ap (λ h. changed h k) is.leads;
    taken = λ e. absurd (cc (e, kept, same));
  };
  kept_is = same;
  graph_is = λ e. graph;
}

-- a change is taken
pub takes_now : (old new : Former) (k : Change) → old.is_kept ≡ false → new.is_kept ≡ old.is_kept
    → new.graph ≡ changed old.graph k → new.kept.items ≡ old.kept.items → Takes k old new
takes_now old new k free same graph kept = record {
  former = λ g is.
      let none : new.kept.items ≡ [] = kept ∙ is.taken free in
      let before : old.graph ≡ g = sym (ap (graph_by old.graph) (is.taken free)) ∙ is.leads in record {
        leads = ap (graph_by new.graph) none ∙ graph ∙ ap (λ h. changed h k) before;
        taken = λ e. none;
      };
  kept_is = same;
  graph_is = λ e. absurd (cc (e, free));
}

-- the changes that were kept are done
pub releases_all : (old new : Former) → new.graph ≡ graph_by old.graph old.kept.items → new.kept.items ≡ []
    → new.is_kept ≡ false → Releases old new
releases_all old new done none free = record {
  former = λ g is. record { leads = ap (graph_by new.graph) none ∙ done ∙ is.leads; taken = λ e. none };
  kept_is = free;
}

-- where none is kept, the former graph is the graph
pub former_is : (f : Former) (g : GraphState) → IsFormer f g → f.is_kept ≡ false → f.graph ≡ g
former_is f g is free = sym (ap (graph_by f.graph) (is.taken free)) ∙ is.leads
