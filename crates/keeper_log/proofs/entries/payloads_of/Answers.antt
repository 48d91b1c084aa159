use Rattle.std.proofs.Common.{◌∙◌, ◌<◌, ◌++◌, [], ◌∷◌, arith, List, ℕ, zero, suc, length, take, map, All, sym, ap, subst}
use Rattle.std.proofs.lemmas.List.{map_more}
use Rattle.std.proofs.lemmas.List.Elements.{All-append}
use Rattle.keeper_entry.specs.Entry.{IsEntry}
use Rattle.keeper_channel.specs.Entries.{AreEntries}
use Rattle.keeper_table.specs.declared.entry.Entry.{Entry}
use Rattle.keeper_log.specs.Entries.{payload_in, IsShort}
use Rattle.keeper_log.proofs.entries.payloads_of.Goals as goal

-- one payload that holds an entry
one_is : (payload : List ℕ) → IsEntry payload → AreEntries (payload ∷ [])
one_is payload is zero other within = is
one_is payload is (suc n) other within = absurd (omega (arith, within))

pub push_payload-requires : goal.push_payload-requires
push_payload-requires c =
    let all = c.as_slice-all.result.now in
    let within : c.loop-place.place < length all = omega arith in
    let entry : Entry = c.index-all-place.result in
    record { short = subst IsShort (sym c.index-all-place.is) (subst (All IsShort) (sym c.as_slice-all.ensures) c.requires.short c.loop-place.place entry within) }

pub loop-place-preserved : goal.loop-place-preserved
loop-place-preserved c =
    let all = c.as_slice-all.result.now in
    let within : c.loop-place.place < length all = omega arith in
    let entry : Entry = c.index-all-place.result in
    let more = map_more payload_in all c.loop-place.place entry within in
    record {
      built = c.in_ok-push_payload.ensures.payload ∙ ap (λ (l : List (List ℕ)). l ++ payload_in entry ∷ []) c.loop-place.invariant.built
          ∙ ap (λ (e : Entry). map payload_in (take c.loop-place.place all) ++ payload_in e ∷ []) c.index-all-place.is ∙ sym more;
      entries = subst AreEntries (sym c.in_ok-push_payload.ensures.payload) (All-append IsEntry c.loop-place.payloads.items (payload_in entry ∷ []) c.loop-place.invariant.entries (one_is (payload_in entry) c.in_ok-push_payload.ensures.entry));
    }
