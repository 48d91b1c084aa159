use Rattle.std.proofs.Common.{◌≡◌, ◌∙◌, ◌-◌, List, ℕ, length, take, drop, refl, sym, ap, subst, arith, length-drop}
use Rattle.std.proofs.Math.Seq.{take-length}
use Rattle.std.specs.Str.{IsUtf8}
use Rattle.keeper_entry.specs.Entry.{IsEntry}
use Rattle.keeper_entry.proofs.payload.content_of.Goals as goal

-- all that stands behind the sender
whole : (payload : List ℕ) → take (length payload - 40) (drop 40 payload) ≡ drop 40 payload
whole payload = ap (λ n. take n (drop 40 payload)) (sym (length-drop 40 payload)) ∙ take-length (drop 40 payload)

pub returns-in-Ok-clause-found : goal.returns-in-Ok-clause-found
returns-in-Ok-clause-found c = (
  λ _. record {
    long = omega arith;
    short = omega arith;
    sender = c.if-not-has_sender.ensures.0 refl;
    utf8 = subst IsUtf8 (whole c.args.payload.now) c.in-Ok.ensures.cases.1;
  },
  λ _. refl,
)

pub returns-in-Ok-clause-value : goal.returns-in-Ok-clause-value
returns-in-Ok-clause-value c = c.in-Ok.ensures.cases.0 ∙ whole c.args.payload.now

pub returns-in-Err-clause-found : goal.returns-in-Err-clause-found
returns-in-Err-clause-found c = (λ e. absurd (cc), λ entry. absurd (c.in-Err.ensures.cases.0 (subst IsUtf8 (sym (whole c.args.payload.now)) entry.utf8)))
