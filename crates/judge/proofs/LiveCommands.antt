-- While a collection marks, what it has found live is present: commands keep this.
use Rattle.std.proofs.Common.{◌≡◌, ◌⊎◌, ℕ, inl, inr, length, sym, subst, Some}
use Rattle.gz_names.specs.declared.names.Name.{Name}
use Rattle.gz_names.specs.declared.names.Name.TheVariants.{Cell, Wrap}
use Rattle.gz_names.specs.declared.numbers.CompNo.{CompNo}
use Rattle.colour_defs.specs.Closure.{Closure, HasEdge, along, delegate, from, weak}
use Rattle.colour_defs.specs.Graph.{GraphState, comp_of, value_of}
use Rattle.colour_defs.specs.Laws.{IsNoWrapper, IsValid}
use Rattle.colour_defs.specs.Units.{Tally}
use Rattle.colour_defs.specs.World.{Collection, Has, IsPresent, Names, World}
use Rattle.colour_defs.proofs.Carried.{Changes, from_source, no_comp, present_closed, present_or}
use Rattle.colour_defs.proofs.Effects.{Source, Waking, only_also}
use Rattle.colour_defs.proofs.Woken.{Woken, from_slot, new_cell, wrapper}
use Rattle.judge.specs.Live.{IsFollowed, IsLive}

-- what is reached from a set that leads nowhere else is in it
pub reached_in : (g : GraphState) (S P : Name → Type 0) → ((x : Name) → S x → P x) → IsFollowed g P → {x : Name}
    → Closure g S x → P x
reached_in g S P h f (from s) = h _ s
reached_in g S P h f (along r e) = f.edges _ _ (reached_in g S P h f r) e
reached_in g S P h f (weak at m k) = f.values _ _ _ at (reached_in g S P h f m) (reached_in g S P h f k)
reached_in g S P h f (delegate at m t) = f.keys _ _ _ _ at (reached_in g S P h f m) (reached_in g S P h f t)

module _ (w : World) (o : Waking) (v : World) (ok : IsValid w) (c : Changes w o v) (k : Collection)
    (l : IsLive w k) where
  new_woken : (x : Name) → (IsPresent w x → ⊥) → IsPresent v x → Woken w.graph v.graph x
  new_woken x absent p = elim (c.fresh x p) [
    | inl there ↦ absurd (absent there)
    | inr e ↦ elim (c.awake x e) [ inl there ↦ absurd (absent there) | inr awake ↦ awake ]
  ]

  target_present : (t : ℕ) → Source w.graph (only_also (Cell t)) (Cell t) → IsPresent w (Cell t)
  target_present t src = from_source w (IsPresent w) (IsPresent w) ok (present_closed w ok) (λ y p. p)
      (only_also (Cell t)) (λ y e. absurd (cc e)) (Cell t) src

  -- a name that is made now is none of the graph as it stood when marking began
  not_made_yet : (x : Name) (d : CompNo) → Cell (length w.graph.objects) ≡ x → comp_of k.snapshot x ≡ Some d → ⊥
  not_made_yet x d e at = no_comp w.graph d (subst (λ z. comp_of w.graph z ≡ Some d) (sym e) (l.made x d at))

  new_edge : (x y : Name) → (IsPresent w x → ⊥) → Woken w.graph v.graph x → HasEdge k.snapshot x y → IsPresent w y
  new_edge x y absent (from_slot s e) d = absurd (absent (ok.presence.slots s x e))
  new_edge x y absent (new_cell e b at) d =
      let held : HasEdge k.snapshot (Cell (length w.graph.objects)) y =
      subst (λ z. HasEdge k.snapshot z y) (sym e) d in
      let same = l.formed.fields (length w.graph.objects) y held in
      absurd (no_comp w.graph same.0 (l.made (Cell (length w.graph.objects)) same.0 same.1))
  new_edge x y absent (wrapper a t e src there) d =
      let p : HasEdge k.snapshot (Wrap a t) y = subst (λ z. HasEdge k.snapshot z y) (sym e) d in
      subst (λ z. IsPresent w z) p.0 (target_present t src)

  no_entry : (x : Name) → (IsPresent w x → ⊥) → Woken w.graph v.graph x → IsNoWrapper x → (d : CompNo)
      → comp_of k.snapshot x ≡ Some d → ⊥
  no_entry x absent (from_slot s e) cell d at = absent (ok.presence.slots s x e)
  no_entry x absent (new_cell e b ab) cell d at = not_made_yet x d e at
  no_entry x absent (wrapper a t e src there) cell d at = let p : IsNoWrapper (Wrap a t) =
      subst (λ z. IsNoWrapper z) (sym e) cell in p

  was_there : (x : Name) → IsNoWrapper x → (d : CompNo) → comp_of k.snapshot x ≡ Some d → IsPresent v x → IsPresent w x
  was_there x cell d at p = elim (present_or w x) [
    | inl there ↦ there
    | inr absent ↦ absurd (no_entry x absent (new_woken x absent p) cell d at)
  ]

  map_was_there : (m q u : Name) → value_of k.snapshot m q ≡ Some u → IsPresent v m → IsPresent w m
  map_was_there m q u at p = let same = l.formed.keys m q u at in
      was_there m (l.formed.no_wrappers m q u at) same.0 same.1 p

  woken_target : (d : CompNo) (t : ℕ) → (IsPresent w (Wrap d t) → ⊥) → Woken w.graph v.graph (Wrap d t)
      → IsPresent w (Cell t)
  woken_target d t absent (from_slot s e) = absurd (absent (ok.presence.slots s (Wrap d t) e))
  woken_target d t absent (new_cell e b ab) = absurd (cc e)
  woken_target d t absent (wrapper b u e src there) =
      let q : u ≡ t = cc e in
      subst (λ n. IsPresent w (Cell n)) q (target_present u src)

  key_was_there : (m q u : Name) → value_of k.snapshot m q ≡ Some u → IsPresent w m → IsPresent v q → IsPresent w q
  key_was_there m (Cell n) u at pm p = let same = l.formed.keys m (Cell n) u at in
      was_there (Cell n) tt same.0 same.2 p
  key_was_there m (Wrap d t) u at pm p = elim (present_or w (Wrap d t)) [
    | inl there ↦ there
    | inr absent ↦ l.followed.keys m u d t at pm (woken_target d t absent (new_woken (Wrap d t) absent p))
  ]

  followed_now : IsFollowed k.snapshot (IsPresent v)
  followed_now = record {
    edges = λ x y p d. elim (present_or w x) [
      | inl there ↦ c.kept y (l.followed.edges x y there d)
      | inr absent ↦ c.kept y (new_edge x y absent (new_woken x absent p) d)
    ];
    values = λ m q u at pm pq. let wm = map_was_there m q u at pm in
        c.kept u (l.followed.values m q u at wm (key_was_there m q u at wm pq));
    keys = λ m u d t at pm pt.
        let made = l.formed.delegates m u d t at in
        c.kept (Wrap d t) (l.followed.keys m u d t at (map_was_there m (Wrap d t) u at pm)
        (was_there (Cell t) tt made.0 made.1 pt));
  }

  pub live_carries : (awake : Names) (tally : Tally)
      → ((x : Name) → Has awake x → Has k.woken x ⊎ (o.first ≡ Some x))
      → IsLive v (record k { woken = awake; tally = tally })
  live_carries awake tally are = record {
    formed = l.formed;
    made = λ x d at. c.follow.comps x d (l.made x d at);
    followed = record { edges = followed_now.edges; values = followed_now.values; keys = followed_now.keys };
    live = λ x h. reached_in k.snapshot (λ s. Has k.live_starts s ⊎ Has awake s) (IsPresent v) (λ y s. elim s [
      | inl a ↦ c.kept y (l.live y (from (inl a)))
      | inr b ↦ elim (are y b) [ inl old ↦ c.kept y (l.live y (from (inr old))) | inr new ↦ c.there y new ]
    ]) followed_now h;
  }
