use Rattle.std.proofs.Common.{◌≡◌, ◌<◌, ◌∙◌, length, set, sym, ap, rules, arith}
use Rattle.std.proofs.lemmas.Map.Made.{map_same_pairs}
use Rattle.gz_names.specs.Moves.{moved}
use Rattle.wrappers.specs.WrapperMaps.{all_forwarded, list_at, lists_of}
use Rattle.wrappers.proofs.Lists.{Entries, lists_of-read, lists_of-set}
use Rattle.wrappers.proofs.wrapper_maps.forward_in_zone.Goals as goal

pub returns : goal.returns
returns c =
    let maps = c.args.maps.now in
    let moves = c.args.moves.now in
    let at = c.index.result in
    let map = c.index-maps-index.result in
    let inside : at < length maps = omega (arith, c.index.ensures, c.requires.zones) in
    let kept : c.retain.new.self.entries ≡ all_forwarded moves map.entries =
    map_same_pairs _ (moved moves) _ (λ k v b w f called. search rules) _ _ c.retain.ensures.filtered
    ∙ ap (λ (m : Entries). all_forwarded moves m.entries) (sym c.index-maps-index.is) in
    lists_of-set maps at c.retain.new.self
    ∙ ap (set (lists_of maps) at)
    (kept ∙ ap (all_forwarded moves) (sym (lists_of-read maps at map inside c.index-maps-index.is)))
    ∙ ap (λ z. set (lists_of maps) z (all_forwarded moves (list_at (lists_of maps) z))) c.index.ensures.value
