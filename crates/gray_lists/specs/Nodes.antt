-- How nodes in one vector stand for the lists of wrappers.
use Rattle.std.specs.Prelude.{◌≡◌, ◌<◌, ◌≤◌, ◌+◌, ◌^◌, ◌++◌, ◌∷◌, [], ℕ, zero, suc, List, Option, Some, None, length}
use Rattle.std.specs.Prelude.{map, sum_by, slice_get, slice_set, slice_index_or}
use Rattle.std.specs.Option.{option_map, unwrap_or}
use Rattle.gz_names.specs.declared.numbers.Place.{Place}
use Rattle.gray_lists.specs.Incoming.{list_at, AreApart}
use Rattle.gray_lists.specs.declared.nodes.Node.{Node}

-- the wrappers of a list that begins at a node, at most so many
abbrev pub walk : List Node → ℕ → Option ℕ → List Place
walk nodes zero head = []
walk nodes (suc most) None = []
walk nodes (suc most) (Some at) =
    unwrap_or (option_map (λ node. node.wrapper ∷ walk nodes most node.next) (slice_get nodes at)) []

-- the list of each compartment
abbrev pub lists_of : List Node → List (Option ℕ) → List (List Place)
lists_of nodes heads = map (walk nodes (length nodes)) heads

-- where a node stands: on the list of which number (256 is the free list), and how many follow it there
abbrev pub Standing : Type 0
Standing = ℕ → ℕ × ℕ

-- a list begins with this wrapper, and so many follow
pub record Link (nodes : List Node) (standing : Standing) (list : ℕ) (head : Option ℕ) (wrapper : Place)
    (rank : ℕ) : Type 0 where
  pub at : ℕ
  pub next : Option ℕ
  pub head_is : head ≡ Some at
  pub node_is : slice_get nodes at ≡ Some (record { wrapper = wrapper; next = next })
  pub stands : standing at ≡ (list, rank)

-- the nodes from a head on hold these wrappers, and all stand on this list
abbrev pub Chain : List Node → Standing → ℕ → Option ℕ → List Place → Type 0
Chain nodes standing list head [] = head ≡ None
Chain nodes standing list head (wrapper ∷ rest) = (link : Link nodes standing list head wrapper (length rest))
    × Chain nodes standing list link.next rest

-- each node stands on the list of one compartment or on the free list, which holds the spare ones
pub record Links (nodes : List Node) (heads : List (Option ℕ)) (free : Option ℕ) (lists : List (List Place))
    (spare : List Place) : Type 0 where
  pub standing : Standing
  pub heads_made : length heads ≡ 256
  pub lists_made : length lists ≡ 256
  pub waits : (c : ℕ) → c < 256 → Chain nodes standing c (slice_index_or heads c None) (list_at lists c)
  pub unused : Chain nodes standing 256 free spare
  pub count : sum_by length lists + length spare ≡ length nodes

-- what always holds of the nodes and the memory for so many
pub record IsSound (nodes : List Node) (capacity : ℕ) (heads : List (Option ℕ)) (free : Option ℕ) (room : ℕ) : Type 0
  where
    pub spare : List Place
    pub links : Links nodes heads free (lists_of nodes heads) spare
    pub apart : AreApart (lists_of nodes heads)
    pub within : length nodes ≤ room
    pub held : room ≤ capacity
    pub limit : room < 2 ^ 32

-- a node was put where the first free one stood, or else at the end
abbrev pub Puts : List Node → Option ℕ → Node → List Node → Option ℕ → ℕ → Type 0
Puts nodes (Some first) node news frees at = (at ≡ first) × (news ≡ slice_set nodes first node)
    × (slice_get nodes first ≡ Some (record { wrapper = (slice_index_or nodes first node).wrapper; next = frees }))
Puts nodes None node news frees at = (at ≡ length nodes) × (news ≡ nodes ++ node ∷ []) × (frees ≡ None)
