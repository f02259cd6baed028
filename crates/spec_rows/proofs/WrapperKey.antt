-- A wrapper key: with its map and its target the key is reached, and the value; with the map alone neither is.
use Rattle.std.proofs.Common.{◌≡◌, [], ◌∷◌, Bool, true, false, cond, refl, sym, subst, Some, None}
use Rattle.std.proofs.Common.{Contains, arith}
use Rattle.gz_names.specs.Order.{same_name}
use Rattle.gz_names.specs.declared.names.Name.{Name}
use Rattle.gz_names.specs.declared.names.Name.TheVariants.{Cell, Wrap}
use Rattle.colour_defs.specs.Graph.{value_of}
use Rattle.colour_defs.specs.Closure.{HasEdge, Closure, from, weak, delegate}
use Rattle.spec_rows.specs.Rows.{comp_0, wrapper_key}
use Rattle.colour_defs.proofs.Lists.{nothing_in_none}
use Rattle.colour_defs.proofs.Names.{same_name-is}
use Rattle.spec_rows.proofs.Places.{reached_within, single}

pub key_by_both : Closure wrapper_key (Contains (Cell 0 ∷ Cell 1 ∷ [])) (Wrap comp_0 1)
key_by_both = delegate {v = Cell 2} refl (from (0, omega arith, refl)) (from (1, omega arith, refl))

pub value_by_both : Closure wrapper_key (Contains (Cell 0 ∷ Cell 1 ∷ [])) (Cell 2)
value_by_both = weak {k = Wrap comp_0 1} refl (from (0, omega arith, refl)) key_by_both

edges_of_map : (x y : Name) → Cell 0 ≡ x → HasEdge wrapper_key x y → ⊥
edges_of_map x y e d = let h : HasEdge wrapper_key (Cell 0) y = subst (λ z. HasEdge wrapper_key z y) (sym e) d in
    nothing_in_none (Some y) h

value_at : (m q v : Name) → Cell 0 ≡ m → value_of wrapper_key m q ≡ Some v → Wrap comp_0 1 ≡ q
value_at m q v e at = go (same_name (Wrap comp_0 1) q) refl (subst (λ z. value_of wrapper_key z q ≡ Some v) (sym e) at)
  where
    go : (b : Bool) → same_name (Wrap comp_0 1) q ≡ b → cond b (Some (Cell 2)) None ≡ Some v → Wrap comp_0 1 ≡ q
    go true is h = same_name-is (Wrap comp_0 1) q is
    go false is h = absurd (cc h)

pub map_reaches_itself : (x : Name) → Closure wrapper_key (Contains (Cell 0 ∷ [])) x → Cell 0 ≡ x
map_reaches_itself x h = single (Cell 0) x (reached_within wrapper_key _ (Cell 0 ∷ []) (λ y c. c)
    (λ y z c d. absurd (edges_of_map y z (single (Cell 0) y c) d))
    (λ m q v at hm hq. absurd (let e = single (Cell 0) q hq in let f = value_at m q v (single (Cell 0) m hm) at in
    cc (e, f)))
    (λ m v c t at hm ht.
    absurd (let e = single (Cell 0) (Cell t) ht in let f = value_at m (Wrap c t) v (single (Cell 0) m hm) at in
    cc (e, f)))
    h)
