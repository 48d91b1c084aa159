use Rattle.pad_chain.proofs.chain.text_is_short.Goals as goal

pub returns : goal.returns
returns g c = c.tip.ensures.stands.short
