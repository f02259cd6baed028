-- What walks have found, and the colours that follow.
use Rattle.std.proofs.Common.{◌≡◌, ◌∙◌, ◌⊎◌, ◌↔◌, inl, inr, ℕ, Bool, true, false, cond, List, [], ◌∷◌, ◌++◌, Contains}
use Rattle.std.proofs.Common.{IsTrue, refl, sym, ap, subst}
use Rattle.std.specs.List.{AllByRecursion, filter}
use Rattle.std.specs.Ordering.{is_lt}
use Rattle.std.proofs.lemmas.List.Elements.{Contains-append_cases, Contains-append_left, Contains-append_right}
use Rattle.gz_names.specs.Zones.{zones_in}
use Rattle.gz_names.specs.declared.names.Name.{Name}
use Rattle.gz_names.specs.Order.{name_cmp}
use Rattle.colour_defs.specs.Graph.{GraphState}
use Rattle.colour_defs.specs.Closure.{Closure, from, along, weak, delegate}
use Rattle.colour_defs.specs.Ends.{IsAscending, Lists}
use Rattle.colour_defs.proofs.Lists.{nothing_in_none, contains_head, contains_tail, contains_cases}
use Rattle.plain_graph.specs.Reach.{Follows, IsDone, WalkState}
use Rattle.judge.specs.Cells.{Cells, Colours, HasCell, HasColours, IsGray, IsGrayBy, IsWhite, IsWhiteBy, LetsGo}
use Rattle.judge.specs.Sound.{IsWalked}
use Rattle.judge.specs.Stages.{AreWhitesIn, Shown}
use Rattle.judge.specs.Weak.{IsWatched, is_watched}
use Rattle.judge.specs.Whites.{AreByArena, lies_in, whites_in}
use Rattle.judge.specs.Walks.{CatchesUp, IsFoundBlack, IsFoundLive, Walks}
use Rattle.judge.specs.declared.collection.GroupEnd.{GroupEnd}
use Rattle.judge.specs.declared.whites.Whites.{Whites}

-- what is reached from names that are reached
pub reached_from : (g : GraphState) (P Q : Name → Type 0) → ((x : Name) → P x → Closure g Q x) → {x : Name}
    → Closure g P x
    → Closure g Q x
reached_from g P Q h (from s) = h _ s
reached_from g P Q h (along r e) = along (reached_from g P Q h r) e
reached_from g P Q h (weak at m k) = weak at (reached_from g P Q h m) (reached_from g P Q h k)
reached_from g P Q h (delegate at m t) = delegate at (reached_from g P Q h m) (reached_from g P Q h t)

-- a walk that went on has found what is reached from what it had found and from the names that were added
pub found_is : (g : GraphState) (more : List Name) (old new : WalkState) (starts : List Name) → Follows g starts old
    → IsDone g (starts ++ more) new → (x : Name)
    → Contains new.names x ↔ Closure g (λ s. Contains old.names s ⊎ Contains more s) x
found_is g more old new starts f done x = (
  λ c. reached_from g (Contains (starts ++ more)) (λ s. Contains old.names s ⊎ Contains more s)
      (λ s h. elim (Contains-append_cases starts more s h) [ inl a ↦ from (inl (f.first s a)) | inr b ↦ from (inr b) ])
      ((done.all x).0 c),
  λ c. (done.all x).1 (reached_from g (λ s. Contains old.names s ⊎ Contains more s) (Contains (starts ++ more))
      (λ s h. elim h [
        | inl o ↦ reached_from g (Contains starts) (Contains (starts ++ more))
            (λ t k. from (Contains-append_left starts more t k)) (f.sound s o)
        | inr b ↦ from (Contains-append_right starts more s b)
      ]) c),
)

pub black_is : (g : GraphState) (before after : Walks) → CatchesUp g before after → IsWalked g before.black → (x : Name)
    → Contains after.black.names x ↔ IsFoundBlack g before x
black_is g before after caught b x =
    found_is g before.woken before.black after.black b.starts b.follows (caught.black b.starts b.follows) x

pub live_is : (g : GraphState) (before after : Walks) → CatchesUp g before after → IsWalked g before.live → (x : Name)
    → Contains after.live.names x ↔ IsFoundLive g before x
live_is g before after caught l x =
    found_is g before.woken before.live after.live l.starts l.follows (caught.live l.starts l.follows) x

pub lists_as : (P Q : Name → Type 0) (xs : List Name) → ((x : Name) → P x → Q x) → ((x : Name) → Q x → P x) → Lists P xs
    → Lists Q xs
lists_as P Q xs h k l =
    record { ascending = l.ascending; has = λ x. (λ c. h x ((l.has x).0 c), λ q. (l.has x).1 (k x q)) }

-- two walks over what some names reach, and where they go on to
pub record HasCaught (former : GraphState) (before after : Walks) : Type 0 where
  pub black : IsWalked former before.black
  pub live : IsWalked former before.live
  pub caught : CatchesUp former before after

-- the gray names of a group's end
pub grays_of : (g : GraphState) (old : Cells) (former : GraphState) (before after : Walks) (end : GroupEnd)
    → HasCaught former before after → HasColours g old after.black.names after.live.names end
    → Lists (λ x. HasCell old x × IsGray g (zones_in end.zones) former before x) end.grays.items
grays_of g old former before after end known has =
    lists_as (λ x. HasCell old x × IsGrayBy g (zones_in end.zones) after.black.names after.live.names x)
    (λ x. HasCell old x × IsGray g (zones_in end.zones) former before x) end.grays.items
    (λ x h. (h.0, (h.1.0, (live x).0 h.1.1, λ f. h.1.2 ((black x).1 f))))
    (λ x h. (h.0, (h.1.0, (live x).1 h.1.1, λ c. h.1.2 ((black x).0 c)))) has.grays
  where
    black : (x : Name) → Contains after.black.names x ↔ IsFoundBlack former before x
    black = black_is former before after known.caught known.black

    live : (x : Name) → Contains after.live.names x ↔ IsFoundLive former before x
    live = live_is former before after known.caught known.live

-- a group ends with these gray names, and the white ones go
pub colours_of : (g : GraphState) (old new : Cells) (former : GraphState) (before after : Walks) (end : GroupEnd)
    → HasCaught former before after → HasColours g old after.black.names after.live.names end
    → LetsGo end.whites.items old new → Colours g (zones_in end.zones) former before old end.grays.items new
colours_of g old new former before after end known has goes = record {
  grays_are = grays_of g old former before after end known has;
  gone = λ x here white. goes.gone x ((has.whites.has x).1 (here, (white.0, λ c. white.1 ((live x).0 c))));
  stay = λ x n. goes.stay x (λ c. let h = (has.whites.has x).0 c in
      n (h.0, (h.1.0, λ f. h.1.1 ((live x).1 f))));
}
  where
    live : (x : Name) → Contains after.live.names x ↔ IsFoundLive former before x
    live = live_is former before after known.caught known.live

-- what a test leaves of a list of names
ascending_after : (f : Name → Bool) (x : Name) (xs : List Name)
    → AllByRecursion (λ y. IsTrue (is_lt (name_cmp x y))) xs
    → AllByRecursion (λ y. IsTrue (is_lt (name_cmp x y))) (filter f xs)
ascending_after f x [] all = tt
ascending_after f x (y ∷ ys) all = go (f y) (ascending_after f x ys all.1)
  where
    go : (b : Bool) → AllByRecursion (λ y. IsTrue (is_lt (name_cmp x y))) (filter f ys)
        → AllByRecursion (λ y. IsTrue (is_lt (name_cmp x y))) (cond b (y ∷ filter f ys) (filter f ys))
    go true rest = (all.0, rest)
    go false rest = rest

pub ascending_left : (f : Name → Bool) (xs : List Name) → IsAscending xs → IsAscending (filter f xs)
ascending_left f [] up = tt
ascending_left f (x ∷ xs) up = go (f x) (ascending_left f xs up.1)
  where
    go : (b : Bool) → IsAscending (filter f xs) → IsAscending (cond b (x ∷ filter f xs) (filter f xs))
    go true rest = (ascending_after f x xs up.0, rest)
    go false rest = rest

pub left_was : (f : Name → Bool) (xs : List Name) (x : Name) → Contains (filter f xs) x → Contains xs x × IsTrue (f x)
left_was f [] x c = absurd (nothing_in_none x c)
left_was f (y ∷ ys) x c = go (left_was f ys x) (f y) refl c
  where
    go : (Contains (filter f ys) x → Contains ys x × IsTrue (f x)) → (b : Bool) → f y ≡ b
        → Contains (cond b (y ∷ filter f ys) (filter f ys)) x → Contains (y ∷ ys) x × IsTrue (f x)
    go rest true e c = elim (contains_cases y (filter f ys) x c) [
      | inl same ↦ (subst (λ z. Contains (y ∷ ys) z) same (contains_head y ys), ap f (sym same) ∙ e)
      | inr t ↦ let r = rest t in (contains_tail y ys x r.0, r.1)
    ]
    go rest false e c = let r = rest c in (contains_tail y ys x r.0, r.1)

left_has : (f : Name → Bool) (xs : List Name) (x : Name) → Contains xs x → IsTrue (f x) → Contains (filter f xs) x
left_has f [] x c t = absurd (nothing_in_none x c)
left_has f (y ∷ ys) x c t = go (λ h. left_has f ys x h t) (f y) refl (contains_cases y ys x c)
  where
    go : (Contains ys x → Contains (filter f ys) x) → (b : Bool) → f y ≡ b → (y ≡ x) ⊎ Contains ys x
        → Contains (cond b (y ∷ filter f ys) (filter f ys)) x
    go rest true e (inl same) = subst (λ z. Contains (y ∷ filter f ys) z) same (contains_head y (filter f ys))
    go rest true e (inr h) = contains_tail y (filter f ys) x (rest h)
    go rest false e (inl same) = absurd (cc (e, t, ap f same))
    go rest false e (inr h) = rest h

lists_left : (f : Name → Bool) (P : Name → Type 0) (xs : List Name) → Lists P xs
    → Lists (λ x. P x × IsTrue (f x)) (filter f xs)
lists_left f P xs l = record {
  ascending = ascending_left f xs l.ascending;
  has = λ x. (
    λ c. let r = left_was f xs x c in ((l.has x).0 r.0, r.1),
    λ h. left_has f xs x ((l.has x).1 h.0) h.1,
  );
}

-- the white cells of an arena as a group ends
pub whites_of : (g : GraphState) (old : Shown) (before after : Walks) (end : GroupEnd) (whites : Whites)
    → HasCaught old.former.graph before after → HasColours g old.cells after.black.names after.live.names end
    → AreByArena old.cells end.whites.items whites → (arena : ℕ)
    → AreWhitesIn g (zones_in end.zones) old before arena (whites_in whites arena)
whites_of g old before after end whites known has by arena =
    let zones = zones_in end.zones in
    let White = λ (x : Name). HasCell old.cells x × IsWhiteBy g zones after.live.names x in
    subst (λ xs. AreWhitesIn g zones old before arena xs) (sym (by arena))
    (lists_as (λ x. White x × IsTrue (lies_in old.cells arena x))
    (λ x. HasCell old.cells x × IsWhite g zones old.former.graph before x × IsTrue (lies_in old.cells arena x))
    (filter (lies_in old.cells arena) end.whites.items)
    (λ x h. (h.0.0, (h.0.1.0, λ f. h.0.1.1 ((live x).1 f)), h.1))
    (λ x h. ((h.0, (h.1.0, λ c. h.1.1 ((live x).0 c))), h.2))
    (lists_left (lies_in old.cells arena) White end.whites.items has.whites))
  where
    live : (x : Name) → Contains after.live.names x ↔ IsFoundLive old.former.graph before x
    live = live_is old.former.graph before after known.caught known.live

-- the white cells that are watched
pub told_of : (g : GraphState) (old : Shown) (before after : Walks) (end : GroupEnd) (told : List Name)
    → HasCaught old.former.graph before after → HasColours g old.cells after.black.names after.live.names end
    → told ≡ filter (is_watched old.weak) end.whites.items
    → Lists (λ x. (HasCell old.cells x × IsWhite g (zones_in end.zones) old.former.graph before x)
    × IsWatched old.weak x) told
told_of g old before after end told known has is =
    let zones = zones_in end.zones in
    let White = λ (x : Name). HasCell old.cells x × IsWhiteBy g zones after.live.names x in
    let Told = λ (x : Name). (HasCell old.cells x × IsWhite g zones old.former.graph before x)
    × IsWatched old.weak x in
    subst (λ xs. Lists Told xs) (sym is)
    (lists_as (λ x. White x × IsTrue (is_watched old.weak x)) Told (filter (is_watched old.weak) end.whites.items)
    (λ x h. ((h.0.0, (h.0.1.0, λ f. h.0.1.1 ((live x).1 f))), h.1))
    (λ x h. ((h.0.0, (h.0.1.0, λ c. h.0.1.1 ((live x).0 c))), h.1))
    (lists_left (is_watched old.weak) White end.whites.items has.whites))
  where
    live : (x : Name) → Contains after.live.names x ↔ IsFoundLive old.former.graph before x
    live = live_is old.former.graph before after known.caught known.live
