-- Moves, one after another.
use Rattle.std.proofs.Common.{◌≡◌, List, [], ◌∷◌, ◌++◌, map, Option, option_map, Some, None, ap, ◌∙◌, append-nil}
use Rattle.std.specs.List.{cons_option}
use Rattle.std.proofs.lemmas.List.Elements.{filter_map-append}
use Rattle.pad_text.specs.declared.name.Name.{Name}
use Rattle.pad_branch.specs.declared.held.Held.{Held}
use Rattle.pad_branch.specs.declared.undo.Undo.{Undo}
use Rattle.pad_branch.specs.Undo.{undone_name}
use Rattle.pad_branch.specs.Held.{message_at, messages_at}
use Rattle.pad_branch.specs.Move.{move_on}
use Rattle.pad_branch.proofs.Apart.{map_joined}
use Rattle.pad_branch.proofs.Growing.{messages_push}

pub moves_push : (table : Name → Option Held) (us : List Undo) (u : Undo) (held : Held) → table u.after.name ≡ Some held → map move_on (messages_at table (map undone_name (us ++ u ∷ []))) ≡ map move_on (messages_at table (map undone_name us)) ++ move_on held.message ∷ []
moves_push table us u held e =
    ap (λ ns. map move_on (messages_at table ns)) (map_joined undone_name us (u ∷ []))
    ∙ ap (map move_on) (messages_push table (map undone_name us) u.after.name held e)
    ∙ map_joined move_on (messages_at table (map undone_name us)) (held.message ∷ [])

pub moves_none : (table : Name → Option Held) (us : List Undo) (u : Undo) → table u.after.name ≡ None → map move_on (messages_at table (map undone_name (us ++ u ∷ []))) ≡ map move_on (messages_at table (map undone_name us))
moves_none table us u e =
    ap (λ ns. map move_on (messages_at table ns)) (map_joined undone_name us (u ∷ []))
    ∙ ap (map move_on) (filter_map-append (message_at table) (map undone_name us) (u.after.name ∷ [])
    ∙ ap (λ (o : Option Held). messages_at table (map undone_name us) ++ cons_option (option_map (λ (h : Held). h.message) o) []) e ∙ append-nil (messages_at table (map undone_name us)))
