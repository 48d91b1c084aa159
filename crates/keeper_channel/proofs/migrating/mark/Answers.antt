use Rattle.std.proofs.Common.{◌≡◌, ◌∙◌, false, length, List, ℕ, [], ◌∷◌, sym, subst}
use Rattle.disk_volume.specs.Disk.{reads}
use Rattle.disk_volume.specs.Moments.{still}
use Rattle.disk_volume.specs.Lemmas.Since.{now_alone}
use Rattle.gated_log.specs.Ledger.{has_room}
use Rattle.log_format.specs.Frames.{size_of}
use Rattle.keeper_channel.specs.Chan.{moved}
use Rattle.log_format.specs.declared.form.Form.{Form}
use Rattle.log_format.specs.declared.form.Form.TheVariants.{One, Two}
use Rattle.keeper_channel.specs.Inside.Adding.{IsAdding}
use Rattle.keeper_channel.proofs.Chans.{adding_marker, unmoved_list, moved_unmarked}
use Rattle.keeper_channel.proofs.Stays.{opens_since}
use Rattle.keeper_channel.proofs.Rooms.{size-cons}
use Rattle.keeper_channel.proofs.migrating.mark.Goals as goal

pub returns-in-Ok-clause-any_moment : goal.returns-in-Ok-clause-any_moment
returns-in-Ok-clause-any_moment g c = λ told old holds_one holds_two sure image left.
    let O = g.O.Ledger in let G = g.G.Ledger in let one = c.args.one.now in let log = c.args.log.now in let name = g.G.Ledger.name c.args.log.now in
    let before = g.V.Volume.disk c.args.volume.now in let after = g.V.Volume.disk c.add_reserved.new.volume in
    let rests = subst (λ (f : Form). O.rests f (O.name one) before) c.requires.form_one (g.met.O.Ledger.holds_rests one old before holds_one) in
    let opens = subst (λ (f : Form). O.opens_as f (O.name one) (reads before) old) c.requires.form_one (g.met.O.Ledger.holds_reads one old before holds_one) in
    let grew = c.add_reserved.ensures.files told in
    let P : Form → Type 0 = λ f. IsAdding (G.opens_as f name image) (moved old) (G.doubt f name (reads before)) c.in-Ok.group in
    let empty : c.in-Ok.group ≡ [] ∷ [] = c.in-Ok.ensures in
    let each = subst P c.requires.form_two (c.add_reserved.ensures.any_moment told (moved old) holds_two image left) in
    adding_marker (O.opens_as One (O.name one)) (G.opens_as Two name) image (G.doubt Two name (reads before)) old sure
    (opens_since (λ files. O.opens_as One (O.name one) files old) (O.owns (O.name one)) before after (g.met.V.Volume.as_it_reads c.args.volume.now told) grew c.requires.apart
    (λ a b. g.met.O.Ledger.opened_by One (O.name one) a b old) (g.met.O.Ledger.rests_now One (O.name one) before old rests opens) image left)
    (subst (λ (l : List (List ℕ)). IsAdding (G.opens_as Two name image) (moved old) (G.doubt Two name (reads before)) l) empty each)

pub returns-in-Err-clause-any_moment : goal.returns-in-Err-clause-any_moment
returns-in-Err-clause-any_moment g c = λ told old holds_one holds_two sure image left.
    let O = g.O.Ledger in let G = g.G.Ledger in let one = c.args.one.now in let log = c.args.log.now in let name = g.G.Ledger.name c.args.log.now in
    let before = g.V.Volume.disk c.args.volume.now in
    let rests = subst (λ (f : Form). O.rests f (O.name one) before) c.requires.form_one (g.met.O.Ledger.holds_rests one old before holds_one) in
    let opens = subst (λ (f : Form). O.opens_as f (O.name one) (reads before) old) c.requires.form_one (g.met.O.Ledger.holds_reads one old before holds_one) in
    let rests_two = subst (λ (f : Form). G.rests f name before) c.requires.form_two (g.met.G.Ledger.holds_rests log (moved old) before holds_two) in
    let opens_two = subst (λ (f : Form). G.opens_as f name (reads before) (moved old)) c.requires.form_two (g.met.G.Ledger.holds_reads log (moved old) before holds_two) in
    let now = now_alone before image left in
    unmoved_list (O.opens_as One (O.name one)) (G.opens_as Two name) image (moved old) old (g.met.G.Ledger.rests_now Two name before (moved old) rests_two opens_two image now) (moved_unmarked old)
    (g.met.O.Ledger.rests_now One (O.name one) before old rests opens image now)

pub returns-in-Err-clause-files : goal.returns-in-Err-clause-files
returns-in-Err-clause-files g c = λ told. still

pub returns-in-Ok-clause-full : goal.returns-in-Ok-clause-full
returns-in-Ok-clause-full g c = λ told old holds is_full.
    let G = g.G.Ledger in let log = c.args.log.now in let before = g.V.Volume.disk c.args.volume.now in
    let empty : c.in-Ok.group ≡ [] ∷ [] = c.in-Ok.ensures in
    let none : G.room log 1 0 ≡ false =
    subst (λ n. G.room log 1 n ≡ false) (size-cons [] []) (subst (λ (l : List (List ℕ)). G.room log (length l) (size_of l) ≡ false) empty (c.add_reserved.ensures.full is_full)) in
    subst (λ (f : Form). has_room f (moved old) 1 0 ≡ false) c.requires.form_two (sym (g.met.G.Ledger.holds_room log (moved old) before 1 0 holds) ∙ none)
