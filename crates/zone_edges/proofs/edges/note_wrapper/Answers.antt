use Rattle.std.proofs.Common.{inl, inr, subst, sym}
use Rattle.gz_names.specs.Zones.{HasZone}
use Rattle.gz_names.specs.declared.zone_sets.ZoneSet.{ZoneSet}
use Rattle.zone_edges.proofs.edges.note_wrapper.Goals as goal

pub note-requires-then-is_key-clause-from : goal.note-requires-then-is_key-clause-from
note-requires-then-is_key-clause-from c =
    subst (λ (z : ZoneSet). HasZone z.bits c.args.to) (sym c.note.ensures.zones) c.requires.to

pub returns-then-is_key-clause-edges : goal.returns-then-is_key-clause-edges
returns-then-is_key-clause-edges c = λ a b. (
  λ e. elim ((c.note-then-is_key.ensures.edges a b).0 e) [
    | inr back ↦ inr (inr (c.is_key.ensures.0 c.if-is_key.true, back.0, back.1))
    | inl one ↦ elim ((c.note.ensures.edges a b).0 one) [ inl was ↦ inl was | inr ends ↦ inr (inl ends) ]
  ],
  λ e. (c.note-then-is_key.ensures.edges a b).1 (elim e [
    | inl was ↦ inl ((c.note.ensures.edges a b).1 (inl was))
    | inr (inl ends) ↦ inl ((c.note.ensures.edges a b).1 (inr ends))
    | inr (inr (key, at_to, at_from)) ↦ inr (at_to, at_from)
  ]),
)

pub returns-else-is_key-clause-edges : goal.returns-else-is_key-clause-edges
returns-else-is_key-clause-edges c = λ a b. (
  λ e. elim ((c.note.ensures.edges a b).0 e) [ inl was ↦ inl was | inr ends ↦ inr (inl ends) ],
  λ e. (c.note.ensures.edges a b).1 (elim e [
    | inl was ↦ inl was
    | inr (inl ends) ↦ inr ends
    | inr (inr (key, at_to, at_from)) ↦ absurd (cc (c.is_key.ensures.1 key, c.if-is_key.false))
  ]),
)
