use Rattle.std.proofs.Common.{◌∙◌, inr, ◌<◌, ℕ, ◌++◌, refl, sym, ap, subst, [], arith}
use Rattle.std.proofs.lemmas.List.{append-nil}
use Rattle.netflux_codec.specs.declared.reply.TheConstants.{MOST_ENTRIES}
use Rattle.keeper_table.specs.Span.{EachBefore}
use Rattle.keeper_table.specs.declared.span.Span.{Span}
use Rattle.netflux_core.specs.Histories.{channel_of, tell_entries, told_entries}
use Rattle.netflux_core.proofs.Changing.{none_changes}
use Rattle.netflux_core.proofs.Telling.{total_of}
use Rattle.netflux_core.proofs.history.push_span.Goals as goal

pub returns-in-Unknown-clause-pushed : goal.returns-in-Unknown-clause-pushed
returns-in-Unknown-clause-pushed g c = λ told channels held suspense kept is spanned. (
  sym (append-nil c.args.outs.now.items) ∙ ap (λ (s : Span). c.args.outs.now.items ++ tell_entries c.args.identity.now c.args.number c.args.ask.now (told_entries c.args.ask.now held s)) (sym c.in-Unknown.is),
  record { now = channels; changes = none_changes channels (channel_of c.args.ask.now) held suspense is; kept = kept },
)

pub returns-in-Unknown-clause-cost : goal.returns-in-Unknown-clause-cost
returns-in-Unknown-clause-cost g c = ([], sym (append-nil c.args.outs.now.items), omega arith)

pub push_entries-requires-clause-entries : goal.push_entries-requires-clause-entries
push_entries-requires-clause-entries g c = subst (λ (s : Span). EachBefore s (λ (index : ℕ). g.K.Keep.has_entry c.args.keeper.now (channel_of c.args.ask.now) index × (index < MOST_ENTRIES))) c.in-Found.is c.requires.entries

pub returns-in-Found-clause-pushed : goal.returns-in-Found-clause-pushed
returns-in-Found-clause-pushed g c = λ told channels held suspense kept is spanned.
    rw c.in-Found.is (c.push_entries.ensures.pushed told channels held suspense kept is (total_of c.args.ask.now held c.in-Found.start c.in-Found.total (sym c.in-Found.is ∙ spanned)))

pub returns-in-Unknown-clause-kept : goal.returns-in-Unknown-clause-kept
returns-in-Unknown-clause-kept g c = inr refl
