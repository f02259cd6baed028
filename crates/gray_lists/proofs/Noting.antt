-- Noting a wrapper and taking one, as the lists tell it.
use Rattle.std.proofs.Common.{◌≡◌, ◌<◌, ◌≤◌, ◌+◌, ◌^◌, ℕ, zero, suc, List, [], ◌∷◌, Option, Some, None, IfSome, IfNone}
use Rattle.std.proofs.Common.{length, set, get_or, replicate, sum_by, length-set, length-append, get_or-set_same, refl}
use Rattle.std.proofs.Common.{sym, ◌∙◌, ap, arith}
use Rattle.std.proofs.lemmas.List.{get_or-replicate, get_or-map, set-set, set-get_or}
use Rattle.std.proofs.lemmas.List.Sums.{sum_by-set}
use Rattle.gz_names.specs.declared.numbers.Place.{Place}
use Rattle.std.specs.List.{slice_get, Contains}
use Rattle.gray_lists.specs.Incoming.{list_at}
use Rattle.gray_lists.specs.Nodes.{walk, lists_of, Links, Puts, IsSound}
use Rattle.gray_lists.specs.declared.nodes.Node.{Node}
use Rattle.gray_lists.proofs.Apart.{AreApart-none, AreApart-noted, AreApart-taken}
use Rattle.gray_lists.proofs.Linking.{Chain-first, Chain-within, lists_of-is, Links-take, Links-put}

pub Links-none : Links [] (replicate 256 None) None (replicate 256 []) []
Links-none = record {
  standing = λ _. (0, 0);
  heads_made = refl;
  lists_made = refl;
  waits = λ c less. rw (
    get_or-replicate {A = Option ℕ} 256 c None None less,
    get_or-replicate {A = List Place} 256 c [] [] less,
  ) refl;
  unused = refl;
  count = refl;
}

-- a list without a head is empty
walk-none : (nodes : List Node) (most : ℕ) → walk nodes most None ≡ []
walk-none nodes zero = refl
walk-none nodes (suc most) = refl

pub list_at-headless : (nodes : List Node) (heads : List (Option ℕ)) (k : ℕ) → k < length heads
    → get_or heads k None ≡ None → list_at (lists_of nodes heads) k ≡ []
list_at-headless nodes heads k h e =
    get_or-map (walk nodes (length nodes)) heads k None [] h ∙ ap (walk nodes (length nodes)) e
    ∙ walk-none nodes (length nodes)

pub head-within : (nodes : List Node) (heads : List (Option ℕ)) (free : Option ℕ) (lists : List (List Place))
    (spare : List Place) (k i : ℕ) → Links nodes heads free lists spare → k < 256 → get_or heads k None ≡ Some i
    → i < length nodes
head-within nodes heads free lists spare k i links h head =
    Chain-within nodes links.standing k i (list_at lists k) (rw head at (links.waits k h))

pub free-within : (nodes : List Node) (heads : List (Option ℕ)) (free : Option ℕ) (lists : List (List Place))
    (spare : List Place) → Links nodes heads free lists spare → IfSome free (λ i. i < length nodes)
free-within nodes heads None lists spare links = tt
free-within nodes heads (Some i) lists spare links = Chain-within nodes links.standing 256 i spare links.unused

none-spare : (nodes : List Node) (heads : List (Option ℕ)) (lists : List (List Place)) (spare : List Place)
    → Links nodes heads None lists spare → spare ≡ []
none-spare nodes heads lists [] links = refl
none-spare nodes heads lists (w ∷ ws) links =
    let no = links.unused.0.head_is in
    cc

pub all-waiting : (nodes : List Node) (heads : List (Option ℕ)) (free : Option ℕ) (lists : List (List Place))
    (spare : List Place) → Links nodes heads free lists spare → IfNone free (sum_by length lists ≡ length nodes)
all-waiting nodes heads (Some i) lists spare links = tt
all-waiting nodes heads None lists spare links =
    let none : length spare ≡ 0 = ap length (none-spare nodes heads lists spare links) in
    let counted = links.count in
    omega (arith, none, counted)

-- a wrapper was taken off the list k
pub record Taken (nodes : List Node) (heads : List (Option ℕ)) (free : Option ℕ) (lists : List (List Place))
    (spare : List Place) (k i : ℕ) (node : Node) (news : List Node) : Type 0 where
  pub rest : List Place
  pub was : list_at lists k ≡ node.wrapper ∷ rest
  pub now : lists_of news (set heads k node.next) ≡ set lists k rest
  pub links : Links news (set heads k node.next) (Some i) (set lists k rest) (node.wrapper ∷ spare)

pub takes : (nodes : List Node) (heads : List (Option ℕ)) (free : Option ℕ) (lists : List (List Place))
    (spare : List Place) (k i : ℕ) (node : Node) (news : List Node) → Links nodes heads free lists spare → k < 256
    → get_or heads k None ≡ Some i → slice_get nodes i ≡ Some node
    → news ≡ set nodes i (record { wrapper = node.wrapper; next = free })
    → Taken nodes heads free lists spare k i node news
takes nodes heads free lists spare k i node news links h head e is =
    let first = Chain-first nodes links.standing k i node (list_at lists k) e (rw head at (links.waits k h)) in
    let taken : Links news (set heads k node.next) (Some i) (set lists k first.rest) (node.wrapper ∷ spare) =
    rw is (Links-take nodes heads free lists spare k i node links first h e) in
    record {
      rest = first.rest;
      was = first.was;
      now = lists_of-is news (set heads k node.next) (Some i) (set lists k first.rest) (node.wrapper ∷ spare) taken;
      links = taken;
    }

-- what was taken is put back
pub put_back : (lists : List (List Place)) (k : ℕ) (w : Place) (rest : List Place) → k < length lists
    → list_at lists k ≡ w ∷ rest → lists ≡ set (set lists k rest) k (w ∷ list_at (set lists k rest) k)
put_back lists k w rest h was =
    rw (get_or-set_same lists k rest [] h, set-set, ← was) (sym (set-get_or lists k []))

-- a wrapper was noted for k
pub record Noted (news : List Node) (heads : List (Option ℕ)) (frees : Option ℕ) (lists : List (List Place)) : Type 0
  where
    pub spare : List Place
    pub links : Links news heads frees lists spare
    pub now : lists_of news heads ≡ lists

pub notes : (nodes : List Node) (heads : List (Option ℕ)) (free : Option ℕ) (lists : List (List Place))
    (spare : List Place) (k at : ℕ) (w : Place) (news : List Node) (frees : Option ℕ)
    → Links nodes heads free lists spare → k < 256
    → Puts nodes free (record { wrapper = w; next = get_or heads k None }) news frees at
    → Noted news (set heads k (Some at)) frees (set lists k (w ∷ list_at lists k))
notes nodes heads free lists spare k at w news frees links h puts =
    let put = Links-put nodes heads free lists spare k at w news frees links h puts in
    record {
      spare = put.0;
      links = put.1;
      now = lists_of-is news (set heads k (Some at)) frees (set lists k (w ∷ list_at lists k)) put.0 put.1;
    }

-- without nodes, whatever the room
pub IsSound-empty : (capacity room : ℕ) → room ≤ capacity → room < 2 ^ 32
    → IsSound [] capacity (replicate 256 None) None room
IsSound-empty capacity room held few = record {
  spare = [];
  links = Links-none;
  apart = AreApart-none;
  within = omega arith;
  held = held;
  limit = few;
}

pub IsSound-new : (capacity : ℕ) → IsSound [] capacity (replicate 256 None) None 0
IsSound-new capacity = IsSound-empty capacity 0 (omega arith) (omega arith)

within-puts : (nodes : List Node) (heads : List (Option ℕ)) (free : Option ℕ) (lists : List (List Place))
    (spare : List Place) (room at : ℕ) (node : Node) (news : List Node) (frees : Option ℕ)
    → Links nodes heads free lists spare → sum_by length lists < room → length nodes ≤ room
    → Puts nodes free node news frees at → length news ≤ room
within-puts nodes heads None lists spare room at node news frees links less within puts =
    let all : sum_by length lists ≡ length nodes = all-waiting nodes heads None lists spare links in
    let longer = length-append nodes (node ∷ []) in
    rw puts.1 (omega (arith, all, longer, less))
within-puts nodes heads (Some i) lists spare room at node news frees links less within puts =
    rw (puts.1, length-set nodes i node) within

pub IsSound-noted : (nodes : List Node) (capacity : ℕ) (heads : List (Option ℕ)) (free : Option ℕ) (room k at : ℕ)
    (w : Place) (news : List Node) (frees : Option ℕ) → IsSound nodes capacity heads free room → k < 256
    → sum_by length (lists_of nodes heads) < room → ((c : ℕ) → Contains (list_at (lists_of nodes heads) c) w → ⊥)
    → Puts nodes free (record { wrapper = w; next = get_or heads k None }) news frees at
    → IsSound news capacity (set heads k (Some at)) frees room
IsSound-noted nodes capacity heads free room k at w news frees sound h less new puts =
    let put = notes nodes heads free (lists_of nodes heads) sound.spare k at w news frees sound.links h puts in
    let fits : k < length (lists_of nodes heads) = rw sound.links.lists_made h in
    record {
      spare = put.spare;
      links = rw put.now put.links;
      apart = rw put.now (AreApart-noted (lists_of nodes heads) k w fits new sound.apart);
      within = within-puts nodes heads free (lists_of nodes heads) sound.spare room at _ news frees sound.links less
          sound.within puts;
      held = sound.held;
      limit = sound.limit;
    }

pub IsSound-taken : (nodes : List Node) (capacity : ℕ) (heads : List (Option ℕ)) (free : Option ℕ) (room k i : ℕ)
    (node : Node) (news : List Node) → IsSound nodes capacity heads free room → k < 256 → get_or heads k None ≡ Some i
    → slice_get nodes i ≡ Some node → news ≡ set nodes i (record { wrapper = node.wrapper; next = free })
    → IsSound news capacity (set heads k node.next) (Some i) room
IsSound-taken nodes capacity heads free room k i node news sound h head e is =
    let took = takes nodes heads free (lists_of nodes heads) sound.spare k i node news sound.links h head e is in
    let fits : k < length (lists_of nodes heads) = rw sound.links.lists_made h in
    record {
      spare = node.wrapper ∷ sound.spare;
      links = rw took.now took.links;
      apart = rw took.now (AreApart-taken (lists_of nodes heads) k node.wrapper took.rest fits took.was sound.apart).0;
      within = rw (is, length-set nodes i (record { wrapper = node.wrapper; next = free })) sound.within;
      held = sound.held;
      limit = sound.limit;
    }

-- what the lists were before one was taken
pub taken-lists : (nodes : List Node) (capacity : ℕ) (heads : List (Option ℕ)) (free : Option ℕ) (room k i : ℕ)
    (node : Node) (news : List Node) → IsSound nodes capacity heads free room → k < 256 → get_or heads k None ≡ Some i
    → slice_get nodes i ≡ Some node → news ≡ set nodes i (record { wrapper = node.wrapper; next = free })
    → lists_of nodes heads ≡ set (lists_of news (set heads k node.next)) k
    (node.wrapper ∷ list_at (lists_of news (set heads k node.next)) k)
taken-lists nodes capacity heads free room k i node news sound h head e is =
    let took = takes nodes heads free (lists_of nodes heads) sound.spare k i node news sound.links h head e is in
    let fits : k < length (lists_of nodes heads) = rw sound.links.lists_made h in
    rw took.now (put_back (lists_of nodes heads) k node.wrapper took.rest fits took.was)

pub taken-once : (nodes : List Node) (capacity : ℕ) (heads : List (Option ℕ)) (free : Option ℕ) (room k i : ℕ)
    (node : Node) (news : List Node) → IsSound nodes capacity heads free room → k < 256 → get_or heads k None ≡ Some i
    → slice_get nodes i ≡ Some node → news ≡ set nodes i (record { wrapper = node.wrapper; next = free }) → (c : ℕ)
    → Contains (list_at (lists_of news (set heads k node.next)) c) node.wrapper → ⊥
taken-once nodes capacity heads free room k i node news sound h head e is =
    let took = takes nodes heads free (lists_of nodes heads) sound.spare k i node news sound.links h head e is in
    let fits : k < length (lists_of nodes heads) = rw sound.links.lists_made h in
    rw took.now (AreApart-taken (lists_of nodes heads) k node.wrapper took.rest fits took.was sound.apart).1

pub count-more : (lists : List (List Place)) (k : ℕ) (w : Place) → k < length lists
    → sum_by length (set lists k (w ∷ list_at lists k)) ≡ sum_by length lists + 1
count-more lists k w h =
    let summed = sum_by-set length lists k (w ∷ list_at lists k) [] h in
    omega (arith, summed)

pub room-held : (nodes : List Node) (capacity : ℕ) (heads : List (Option ℕ)) (free : Option ℕ) (room : ℕ)
    → IsSound nodes capacity heads free room → sum_by length (lists_of nodes heads) < room
    → IfNone free (length nodes < capacity)
room-held nodes capacity heads (Some i) room sound less = tt
room-held nodes capacity heads None room sound less =
    let all : sum_by length (lists_of nodes heads) ≡ length nodes =
    all-waiting nodes heads None (lists_of nodes heads) sound.spare sound.links in
    let held = sound.held in
    omega (arith, all, held, less)

pub comps-made : (nodes : List Node) (capacity : ℕ) (heads : List (Option ℕ)) (free : Option ℕ) (room : ℕ)
    → IsSound nodes capacity heads free room → length (lists_of nodes heads) ≡ 256
comps-made nodes capacity heads free room sound = sound.links.lists_made
