-- What a write to one node, and a node more, do to the lists.
use Rattle.std.proofs.Common.{◌≡◌, ◌≢◌, ◌<◌, ◌≤◌, ◌==◌, inl, inr, ℕ, zero, suc, List, [], ◌∷◌, ◌++◌, Option, Some, None}
use Rattle.std.proofs.Common.{length, set, get_or, get_or-set_same, get_or-set_other, length-set, length-append, refl}
use Rattle.std.proofs.Common.{sym, ◌∙◌, ap, arith, subst, if◌then◌else◌}
use Rattle.std.proofs.lemmas.Grind.{common_steps}
use Rattle.std.proofs.lemmas.List.{length-map, get_or-map, ext_get_or}
use Rattle.std.proofs.lemmas.List.Sums.{sum_by-set, get_or-le-sum_by}
use Rattle.std.proofs.lemmas.Option.{slice_get_within}
use Rattle.std.proofs.lemmas.Bool.{cases_eq}
use Rattle.std.specs.List.{slice_get}
use Rattle.gz_names.specs.declared.numbers.Place.{Place}
use Rattle.gray_lists.specs.Incoming.{list_at}
use Rattle.gray_lists.specs.Nodes.{walk, lists_of, Standing, Chain, Links, Puts}
use Rattle.gray_lists.specs.declared.nodes.Node.{Node}
use Rattle.gray_lists.proofs.Reading.{slice_get-set_same, slice_get-set_other, slice_get-push_at, slice_get-push_before}

-- a chain holds only what its nodes say, so it stays where these stay
pub Chain-kept : (nodes news : List Node) (standing stands : Standing) (k : ℕ) (head : Option ℕ) (ws : List Place)
    → ((j : ℕ) (node : Node) → slice_get nodes j ≡ Some node → (r : ℕ) → r < length ws → standing j ≡ (k, r)
    → (slice_get news j ≡ Some node) × (stands j ≡ standing j)) → Chain nodes standing k head ws
    → Chain news stands k head ws
Chain-kept nodes news standing stands k head [] keep chain = chain
Chain-kept nodes news standing stands k head (w ∷ ws) keep chain =
    let link = chain.0 in
    let kept = keep link.at (record { wrapper = w; next = link.next }) link.node_is (length ws) (omega arith)
    link.stands in (
      record {
        at = link.at;
        next = link.next;
        head_is = link.head_is;
        node_is = kept.0;
        stands = kept.1 ∙ link.stands;
      },
      Chain-kept nodes news standing stands k link.next ws (λ j node e r less at_r. keep j node e r (omega arith) at_r)
          chain.1,
    )

-- one node stands elsewhere
abbrev moved : Standing → ℕ → ℕ × ℕ → Standing
moved standing i place j = if j == i then place else standing j

moved-same : (standing : Standing) (i : ℕ) (place : ℕ × ℕ) → moved standing i place i ≡ place
moved-same standing i place = grind (arith, common_steps)

moved-other : (standing : Standing) (i : ℕ) (place : ℕ × ℕ) (j : ℕ) → j ≢ i → moved standing i place j ≡ standing j
moved-other standing i place j n = grind (arith, common_steps)

pub Chain-set : (nodes : List Node) (standing : Standing) (k : ℕ) (head : Option ℕ) (ws : List Place) (i : ℕ)
    (node : Node) (place : ℕ × ℕ) → ((r : ℕ) → r < length ws → standing i ≢ (k, r)) → Chain nodes standing k head ws
    → Chain (set nodes i node) (moved standing i place) k head ws
Chain-set nodes standing k head ws i node place apart chain =
    Chain-kept nodes (set nodes i node) standing (moved standing i place) k head ws
    (λ j old e r less at_r. elim (cases_eq j i) [
      | inl same ↦ absurd (apart r less (subst (λ (z : ℕ). standing z ≡ (k, r)) same at_r))
      | inr other ↦ (slice_get-set_other nodes i j node other ∙ e, moved-other standing i place j other)
    ]) chain

pub Chain-push : (nodes : List Node) (standing : Standing) (k : ℕ) (head : Option ℕ) (ws : List Place) (node : Node)
    (place : ℕ × ℕ) → Chain nodes standing k head ws
    → Chain (nodes ++ node ∷ []) (moved standing (length nodes) place) k head ws
Chain-push nodes standing k head ws node place chain =
    Chain-kept nodes (nodes ++ node ∷ []) standing (moved standing (length nodes) place) k head ws
    (λ j old e r less at_r.
    let within : j < length nodes = slice_get_within nodes j old e in
    (slice_get-push_before nodes j node within ∙ e, moved-other standing (length nodes) place j (omega arith))) chain

-- a chain with a head has a first wrapper
pub record First (nodes : List Node) (standing : Standing) (k i : ℕ) (node : Node) (ws : List Place) : Type 0 where
  pub rest : List Place
  pub was : ws ≡ node.wrapper ∷ rest
  pub stands : standing i ≡ (k, length rest)
  pub left : Chain nodes standing k node.next rest

pub Chain-first : (nodes : List Node) (standing : Standing) (k : ℕ) (i : ℕ) (node : Node) (ws : List Place)
    → slice_get nodes i ≡ Some node → Chain nodes standing k (Some i) ws → First nodes standing k i node ws
Chain-first nodes standing k i node [] e chain = cc
Chain-first nodes standing k i node (w ∷ ws) e chain =
    let link = chain.0 in
    let head = link.head_is in
    let found = link.node_is in
    let here : i ≡ link.at = cc in
    let same : node ≡ record { wrapper = w; next = link.next } = cc in
    record {
      rest = ws;
      was = ap (λ (n : Node). n.wrapper ∷ ws) (sym same);
      stands = ap standing here ∙ link.stands;
      left = subst (λ (n : Node). Chain nodes standing k n.next ws) (sym same) chain.1;
    }

pub Chain-within : (nodes : List Node) (standing : Standing) (k : ℕ) (i : ℕ) (ws : List Place)
    → Chain nodes standing k (Some i) ws → i < length nodes
Chain-within nodes standing k i [] chain = cc
Chain-within nodes standing k i (w ∷ ws) chain =
    let link = chain.0 in
    let head = link.head_is in
    let here : i ≡ link.at = cc in
    rw here (slice_get_within nodes link.at _ link.node_is)

-- a walk that may be as long as the chain finds it
pub walk-is : (nodes : List Node) (standing : Standing) (k : ℕ) (most : ℕ) (head : Option ℕ) (ws : List Place)
    → length ws ≤ most → Chain nodes standing k head ws → walk nodes most head ≡ ws
walk-is nodes standing k zero head [] h chain = refl
walk-is nodes standing k (suc most) head [] h chain = ap (walk nodes (suc most)) chain
walk-is nodes standing k zero head (w ∷ ws) h chain = absurd (omega arith)
walk-is nodes standing k (suc most) head (w ∷ ws) h chain =
    let link = chain.0 in
    rw (link.head_is, link.node_is)
    (ap (λ rest. w ∷ rest) (walk-is nodes standing k most link.next ws (omega arith) chain.1))

-- the walks from the heads find the lists
pub lists_of-is : (nodes : List Node) (heads : List (Option ℕ)) (free : Option ℕ) (lists : List (List Place))
    (spare : List Place) → Links nodes heads free lists spare → lists_of nodes heads ≡ lists
lists_of-is nodes heads free lists spare links =
    ext_get_or [] (lists_of nodes heads) lists (length-map heads (walk nodes (length nodes)) ∙ links.heads_made
    ∙ sym links.lists_made) (λ i less.
    let within : i < length heads = rw (length-map heads (walk nodes (length nodes))) at less in
    let made = links.heads_made in
    let made_too = links.lists_made in
    let short = get_or-le-sum_by length lists i [] (omega arith) in
    let counted = links.count in
    get_or-map (walk nodes (length nodes)) heads i None [] within
    ∙ walk-is nodes links.standing i (length nodes) (get_or heads i None) (get_or lists i []) (omega arith)
    (links.waits i (omega arith)))

-- two lists' numbers, or two ranks, that differ
other_list : (place : ℕ × ℕ) (k l a b : ℕ) → place ≡ (k, a) → k ≢ l → place ≢ (l, b)
other_list place k l a b is differ e = differ (ap (λ (p : ℕ × ℕ). p.0) (sym is ∙ e))

other_rank : (place : ℕ × ℕ) (k l a b : ℕ) → place ≡ (k, a) → a ≢ b → place ≢ (l, b)
other_rank place k l a b is differ e = differ (ap (λ (p : ℕ × ℕ). p.1) (sym is ∙ e))

-- the lists of all compartments, where one is changed and the others stay
waits-set : (news : List Node) (stands : Standing) (heads : List (Option ℕ)) (lists : List (List Place)) (k : ℕ)
    (head : Option ℕ) (ws : List Place) → length heads ≡ 256 → length lists ≡ 256 → k < 256
    → Chain news stands k head ws
    → ((c : ℕ) → c < 256 → c ≢ k → Chain news stands c (get_or heads c None) (list_at lists c)) → (c : ℕ) → c < 256
    → Chain news stands c (get_or (set heads k head) c None) (list_at (set lists k ws) c)
waits-set news stands heads lists k head ws made made_too h here others c less = elim (cases_eq c k) [
  | inl e ↦ rw (e, get_or-set_same heads k head None (omega arith), get_or-set_same lists k ws [] (omega arith)) here
  | inr n ↦ rw (get_or-set_other heads k c head None n, get_or-set_other lists k c ws [] n) (others c less n)
]

-- the first node of a list goes to the free list
pub Links-take : (nodes : List Node) (heads : List (Option ℕ)) (free : Option ℕ) (lists : List (List Place))
    (spare : List Place) (k i : ℕ) (node : Node) → (links : Links nodes heads free lists spare)
    → (first : First nodes links.standing k i node (list_at lists k)) → k < 256 → slice_get nodes i ≡ Some node
    → Links (set nodes i (record { wrapper = node.wrapper; next = free })) (set heads k node.next) (Some i)
    (set lists k first.rest) (node.wrapper ∷ spare)
Links-take nodes heads free lists spare k i node links first h e =
    let news : Node = record { wrapper = node.wrapper; next = free } in
    let within : i < length nodes = slice_get_within nodes i node e in
    let stands : Standing = moved links.standing i (256, length spare) in
    let made = links.heads_made in
    let made_too = links.lists_made in
    let counted = links.count in
    let summed = sum_by-set length lists k first.rest [] (omega arith) in
    let longer : length (list_at lists k) ≡ suc (length first.rest) = ap length first.was in
    let same_length = length-set nodes i news in
    record {
      standing = stands;
      heads_made = length-set heads k node.next ∙ made;
      lists_made = length-set lists k first.rest ∙ made_too;
      waits = waits-set (set nodes i news) stands heads lists k node.next first.rest made made_too h
          (Chain-set nodes links.standing k node.next first.rest i news (256, length spare)
          (λ r less. other_rank (links.standing i) k k (length first.rest) r first.stands (omega arith)) first.left)
          (λ c less differ. Chain-set nodes links.standing c (get_or heads c None) (list_at lists c) i news
          (256, length spare) (λ r _. other_list (links.standing i) k c (length first.rest) r first.stands
          (λ e. differ (sym e))) (links.waits c less));
      unused = (
        record {
          at = i;
          next = free;
          head_is = refl;
          node_is = slice_get-set_same nodes i news within;
          stands = moved-same links.standing i (256, length spare);
        },
        Chain-set nodes links.standing 256 free spare i news (256, length spare)
            (λ r _. other_list (links.standing i) k 256 (length first.rest) r first.stands (omega arith)) links.unused,
      );
      count = omega (arith, summed, longer, counted, same_length);
    }

-- the first free node goes to a list
Links-reuse : (nodes : List Node) (heads : List (Option ℕ)) (lists : List (List Place)) (spare : List Place) (k i : ℕ)
    (old : Node) (w : Place) → (links : Links nodes heads (Some i) lists spare)
    → (first : First nodes links.standing 256 i old spare) → k < 256 → slice_get nodes i ≡ Some old
    → Links (set nodes i (record { wrapper = w; next = get_or heads k None })) (set heads k (Some i)) old.next
    (set lists k (w ∷ list_at lists k)) first.rest
Links-reuse nodes heads lists spare k i old w links first h e =
    let ws : List Place = list_at lists k in
    let news : Node = record { wrapper = w; next = get_or heads k None } in
    let within : i < length nodes = slice_get_within nodes i old e in
    let stands : Standing = moved links.standing i (k, length ws) in
    let made = links.heads_made in
    let made_too = links.lists_made in
    let counted = links.count in
    let summed = sum_by-set length lists k (w ∷ ws) [] (omega arith) in
    let longer : length spare ≡ suc (length first.rest) = ap length first.was in
    let same_length = length-set nodes i news in
    let others : (c : ℕ) → c < 256 → Chain (set nodes i news) stands c (get_or heads c None) (list_at lists c) =
    λ c less. Chain-set nodes links.standing c (get_or heads c None) (list_at lists c) i news (k, length ws)
    (λ r _. other_list (links.standing i) 256 c (length first.rest) r first.stands (omega arith))
    (links.waits c less) in
    record {
      standing = stands;
      heads_made = length-set heads k (Some i) ∙ made;
      lists_made = length-set lists k (w ∷ ws) ∙ made_too;
      waits = waits-set (set nodes i news) stands heads lists k (Some i) (w ∷ ws) made made_too h (
        record {
          at = i;
          next = get_or heads k None;
          head_is = refl;
          node_is = slice_get-set_same nodes i news within;
          stands = moved-same links.standing i (k, length ws);
        },
        others k h,
      )
          (λ c less _. others c less);
      unused = Chain-set nodes links.standing 256 old.next first.rest i news (k, length ws)
          (λ r less. other_rank (links.standing i) 256 256 (length first.rest) r first.stands (omega arith)) first.left;
      count = omega (arith, summed, longer, counted, same_length);
    }

-- a new node goes to a list
Links-push : (nodes : List Node) (heads : List (Option ℕ)) (lists : List (List Place)) (k : ℕ) (w : Place)
    → Links nodes heads None lists [] → k < 256
    → Links (nodes ++ (record { wrapper = w; next = get_or heads k None }) ∷ []) (set heads k (Some (length nodes)))
    None (set lists k (w ∷ list_at lists k)) []
Links-push nodes heads lists k w links h =
    let ws : List Place = list_at lists k in
    let node : Node = record { wrapper = w; next = get_or heads k None } in
    let stands : Standing = moved links.standing (length nodes) (k, length ws) in
    let made = links.heads_made in
    let made_too = links.lists_made in
    let counted = links.count in
    let summed = sum_by-set length lists k (w ∷ ws) [] (omega arith) in
    let longer = length-append nodes (node ∷ []) in
    let others : (c : ℕ) → c < 256 → Chain (nodes ++ node ∷ []) stands c (get_or heads c None) (list_at lists c) =
    λ c less. Chain-push nodes links.standing c (get_or heads c None) (list_at lists c) node (k, length ws)
    (links.waits c less) in
    record {
      standing = stands;
      heads_made = length-set heads k (Some (length nodes)) ∙ made;
      lists_made = length-set lists k (w ∷ ws) ∙ made_too;
      waits = waits-set (nodes ++ node ∷ []) stands heads lists k (Some (length nodes)) (w ∷ ws) made made_too h (
        record {
          at = length nodes;
          next = get_or heads k None;
          head_is = refl;
          node_is = slice_get-push_at nodes node;
          stands = moved-same links.standing (length nodes) (k, length ws);
        },
        others k h,
      )
          (λ c less _. others c less);
      unused = refl;
      count = omega (arith, summed, counted, longer);
    }

-- a node goes to a list: the first free one, or else a new one
pub Links-put : (nodes : List Node) (heads : List (Option ℕ)) (free : Option ℕ) (lists : List (List Place))
    (spare : List Place) (k at : ℕ) (w : Place) (news : List Node) (frees : Option ℕ)
    → Links nodes heads free lists spare → k < 256
    → Puts nodes free (record { wrapper = w; next = get_or heads k None }) news frees at → (left : List Place)
    × Links news (set heads k (Some at)) frees (set lists k (w ∷ list_at lists k)) left
Links-put nodes heads None lists [] k at w news frees links h puts =
    ([], rw (puts.0, puts.1, puts.2) (Links-push nodes heads lists k w links h))
Links-put nodes heads None lists (v ∷ vs) k at w news frees links h puts =
    let no = links.unused.0.head_is in
    absurd (cc)
Links-put nodes heads (Some i) lists spare k at w news frees links h puts =
    let old : Node = record {
      wrapper = (get_or nodes i (record { wrapper = w; next = get_or heads k None })).wrapper;
      next = frees;
    } in
    let first = Chain-first nodes links.standing 256 i old spare puts.2 links.unused in
    (first.rest, rw (puts.0, puts.1) (Links-reuse nodes heads lists spare k i old w links first h puts.2))
