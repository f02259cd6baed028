-- What turns black of the zones that are left out, by how far a collection is, and by one name or two.
use Rattle.std.proofs.Common.{◌≡◌, ◌⊎◌, ◌↔◌, ◌∙◌, inl, inr, Option, Some, None, refl, subst, sym, ap}
use Rattle.std.specs.BTreeSet.{BTreeSet}
use Rattle.gz_names.specs.declared.names.Name.{Name}
use Rattle.gz_names.specs.declared.zone_sets.ZoneSet.{ZoneSet}
use Rattle.colour_defs.specs.Closure.{ClosureWithin, within_edge, within_key, within_start, within_value}
use Rattle.colour_defs.specs.Graph.{GraphState}
use Rattle.colour_defs.proofs.Carried.{within_in}
use Rattle.judge.proofs.LeftOut.{within_from}
use Rattle.judge.specs.LeftOut.{GrowsLeft, IsClosedLeft, IsEither, IsOutOf}
use Rattle.judge.specs.Stages.{BlackensLeft, Stage, collecting, idle, preparing, stage_of}
use Rattle.judge.specs.Walks.{IsLeftBlack, left_out_of}
use Rattle.judge.specs.declared.preparation.Preparation.{Preparation}
use Rattle.judge.specs.declared.world.Phase.{Phase}
use Rattle.judge.specs.declared.world.Phase.TheVariants as phase

grows_as : (g : GraphState) (zones : ZoneSet) (P Q : Name → Type 0) (old new : Option (BTreeSet Name))
    → ((x : Name) → P x ↔ Q x) → GrowsLeft g zones P old new → GrowsLeft g zones Q old new
grows_as g zones P Q old new are grows = λ closed y. (
  λ h. within_from g (IsOutOf g zones) (λ s. IsLeftBlack old s ⊎ P s) (λ s. IsLeftBlack old s ⊎ Q s)
      (λ x s out. elim s [ inl o ↦ within_start (inl o) out | inr p ↦ within_start (inr ((are x).0 p)) out ])
      ((grows closed y).0 h),
  λ r. (grows closed y).1 (within_from g (IsOutOf g zones) (λ s. IsLeftBlack old s ⊎ Q s)
      (λ s. IsLeftBlack old s ⊎ P s)
      (λ x s out. elim s [ inl o ↦ within_start (inl o) out | inr q ↦ within_start (inr ((are x).1 q)) out ]) r),
)

-- nothing turns black
grows_none : (g : GraphState) (zones : ZoneSet) (P : Name → Type 0) (left : Option (BTreeSet Name))
    → ((x : Name) → P x → ⊥) → GrowsLeft g zones P left left
grows_none g zones P left none = λ closed y. (
  λ h. within_start (inl h) (closed.inside y h),
  λ r. still closed r,
)
  where
    still : IsClosedLeft g zones left → {y : Name}
        → ClosureWithin g (IsOutOf g zones) (λ s. IsLeftBlack left s ⊎ P s) y → IsLeftBlack left y
    still closed (within_start (inl o) out) = o
    still closed (within_start (inr p) out) = absurd (none _ p)
    still closed (within_edge r e out) = closed.edges _ _ (still closed r) e out
    still closed (within_value is m k out) = closed.values _ _ _ is (still closed m) (still closed k) out
    still closed (within_key is m t out) = closed.keys _ _ _ _ is (still closed m) (still closed t) out

-- some names turn black, and then others
grows_both : (g : GraphState) (zones : ZoneSet) (P Q R : Name → Type 0) (old mid new : Option (BTreeSet Name))
    → ((x : Name) → R x ↔ (P x ⊎ Q x)) → GrowsLeft g zones P old mid → GrowsLeft g zones Q mid new
    → GrowsLeft g zones R old new
grows_both g zones P Q R old mid new are first then = λ closed y. (
  λ h. within_from g (IsOutOf g zones) (λ s. IsLeftBlack mid s ⊎ Q s) (λ s. IsLeftBlack old s ⊎ R s)
      (λ x s out. elim s [
        | inl m ↦ within_from g (IsOutOf g zones) (λ s. IsLeftBlack old s ⊎ P s) (λ s. IsLeftBlack old s ⊎ R s)
            (λ x s out. elim s [
              | inl o ↦ within_start (inl o) out
              | inr p ↦ within_start (inr ((are x).1 (inl p))) out
            ]) ((first closed x).0 m)
        | inr q ↦ within_start (inr ((are x).1 (inr q))) out
      ]) ((then (between closed) y).0 h),
  λ r. (then (between closed) y).1 (within_from g (IsOutOf g zones) (λ s. IsLeftBlack old s ⊎ R s)
      (λ s. IsLeftBlack mid s ⊎ Q s)
      (λ x s out. elim s [
        | inl o ↦ within_start (inl ((first closed x).1 (within_start (inl o) out))) out
        | inr r ↦ elim ((are x).0 r) [
          | inl p ↦ within_start (inl ((first closed x).1 (within_start (inr p) out))) out
          | inr q ↦ within_start (inr q) out
        ]
      ]) r),
)
  where
    between : IsClosedLeft g zones old → IsClosedLeft g zones mid
    between closed = record {
      inside = λ x h. within_in ((first closed x).0 h);
      edges = λ x y h e out. (first closed y).1 (within_edge ((first closed x).0 h) e out);
      values = λ m k v is hm hk out.
          (first closed v).1 (within_value is ((first closed m).0 hm) ((first closed k).0 hk) out);
      keys = λ m v c t is hm ht out.
          (first closed _).1 (within_key is ((first closed m).0 hm) ((first closed _).0 ht) out);
    }

pub left_as : (g : GraphState) (s : Stage) (P Q : Name → Type 0) (old new : Option (BTreeSet Name))
    → ((x : Name) → P x ↔ Q x) → BlackensLeft g s P old new → BlackensLeft g s Q old new
left_as g idle P Q old new are b = b
left_as g (preparing zones) P Q old new are b = grows_as g zones P Q old new are b
left_as g (collecting zones marking groups) P Q old new are b = b

pub left_none : (g : GraphState) (s : Stage) (P : Name → Type 0) (left : Option (BTreeSet Name))
    → ((x : Name) → P x → ⊥) → BlackensLeft g s P left left
left_none g idle P left none = refl
left_none g (preparing zones) P left none = grows_none g zones P left none
left_none g (collecting zones marking groups) P left none = refl

pub left_both : (g : GraphState) (s : Stage) (P Q R : Name → Type 0) (old mid new : Option (BTreeSet Name))
    → ((x : Name) → R x ↔ (P x ⊎ Q x)) → BlackensLeft g s P old mid × BlackensLeft g s Q mid new
    → BlackensLeft g s R old new
left_both g idle P Q R old mid new are (a, b) = b ∙ a
left_both g (preparing zones) P Q R old mid new are (a, b) = grows_both g zones P Q R old mid new are a b
left_both g (collecting zones marking groups) P Q R old mid new are (a, b) = b ∙ a

-- what turns black, by a stage and black names that are the same
pub left_moved : (g : GraphState) (s t : Stage) (P : Name → Type 0) (a b new : Option (BTreeSet Name)) → t ≡ s → b ≡ a
    → BlackensLeft g t P b new → BlackensLeft g s P a new
left_moved g s t P a b new stage left l =
    subst (λ (u : Stage). BlackensLeft g u P a new) stage
    (subst (λ (o : Option (BTreeSet Name)). BlackensLeft g t P o new) left l)

pub left_of : (g : GraphState) (s : Stage) (x y : Option Name) (old new : Option (BTreeSet Name)) → x ≡ y
    → BlackensLeft g s (λ n. x ≡ Some n) old new → BlackensLeft g s (λ n. y ≡ Some n) old new
left_of g s x y old new same l =
    subst (λ (z : Option Name). BlackensLeft g s (λ n. z ≡ Some n) old new) same l

-- one name
pub left_some : (g : GraphState) (s : Stage) (x : Name) (o : Option Name) (old new : Option (BTreeSet Name))
    → o ≡ Some x → BlackensLeft g s (λ n. x ≡ n) old new → BlackensLeft g s (λ n. o ≡ Some n) old new
left_some g s x o old new is l =
    left_as g s (λ n. x ≡ n) (λ n. o ≡ Some n) old new
    (λ n. (λ same. is ∙ ap Some same, λ e. let both : Some x ≡ Some n = sym is ∙ e in cc both)) l

pub left_absent : (g : GraphState) (s : Stage) (o : Option Name) (left : Option (BTreeSet Name)) → o ≡ None
    → BlackensLeft g s (λ n. o ≡ Some n) left left
left_absent g s o left is = left_none g s (λ n. o ≡ Some n) left (λ n e. cc (is, e))

-- the second name first, and then the first
pub left_either : (g : GraphState) (s : Stage) (x also : Option Name) (old mid new : Option (BTreeSet Name))
    → BlackensLeft g s (λ n. also ≡ Some n) old mid → BlackensLeft g s (λ n. x ≡ Some n) mid new
    → BlackensLeft g s (IsEither x also) old new
left_either g s x also old mid new a b =
    left_both g s (λ n. also ≡ Some n) (λ n. x ≡ Some n) (IsEither x also) old mid new
    (λ n. (λ e. elim e [ inl h ↦ inr h | inr h ↦ inl h ], λ e. elim e [ inl h ↦ inr h | inr h ↦ inl h ])) (a, b)

pub left_alone : (g : GraphState) (s : Stage) (x : Option Name) (old new : Option (BTreeSet Name))
    → BlackensLeft g s (λ n. x ≡ Some n) old new → BlackensLeft g s (IsEither x None) old new
left_alone g s x old new l =
    left_as g s (λ n. x ≡ Some n) (IsEither x None) old new
    (λ n. (λ e. inl e, λ e. elim e [ inl h ↦ h | inr h ↦ absurd (cc h) ])) l

-- what turns black, by names that are the same
pub left_read : (g : GraphState) (s : Stage) (x also y other : Option Name) (old new : Option (BTreeSet Name))
    → (x ≡ y) × (also ≡ other) → BlackensLeft g s (IsEither x also) old new
    → BlackensLeft g s (IsEither y other) old new
left_read g s x also y other old new same l =
    subst (λ (a : Option Name). BlackensLeft g s (IsEither a other) old new) same.0
    (subst (λ (b : Option Name). BlackensLeft g s (IsEither x b) old new) same.1 l)

-- while these zones are being prepared
pub left_prepared : (g : GraphState) (q : Phase) (p after : Preparation) (P : Name → Type 0) → q ≡ phase.Preparing p
    → GrowsLeft g p.zones P (Some p.black) (Some after.black)
    → BlackensLeft g (stage_of q) P (left_out_of q) (Some after.black)
left_prepared g q p after P is grows =
    subst (λ (u : Phase). BlackensLeft g (stage_of u) P (left_out_of u) (Some after.black)) (sym is) grows
