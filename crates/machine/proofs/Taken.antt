-- What the outcome of a step says of an event: the rule that turns it away, or 0, whether it counts, and its effect.
-- All of them go by the kind, and so does the outcome: of each kind it is the outcome by that rule.
use mathlib.Core.Path.{◌≡◌, refl, sym, ap, ◌∙◌}
use Rattle.record.specs.declared.events.Event.{Event}
use Rattle.record.specs.declared.events.Event.TheVariants.{Begin, Issue, Commit, Load, Clflush, Clwb}
use Rattle.record.specs.declared.events.Event.TheVariants.{Sfence, Mfence, Crash, SkipOn, SkipOff, Locked}
use Rattle.record.specs.declared.events.Event.TheVariants.{Signal, Wait, Open, Close}
use Rattle.record.specs.Events.{kind_of}
use Rattle.record.specs.Fields.{fields_of}
use Rattle.machine.specs.Arms.{by_kind}
use Rattle.machine.specs.Twin.{World}
use Rattle.machine.specs.Turning.{refusal_k, refusal_w, counts_k, counts_w}
use Rattle.machine.specs.Effects.{step_k, step_w}
use Rattle.machine.specs.Outcomes.{Outcome, by_rule, step_o}
use Rattle.machine.proofs.RuleLaws.{rule_told}

outcome_is :
    (w : World) (e : Event)
    → step_o w (kind_of e) (fields_of e) ≡ by_rule (refusal_w w e) w (counts_w w e) (step_w w e)
unfolding step_o refusal_k counts_k step_k by_kind by_rule
outcome_is w (Begin v a b) = refl
outcome_is w (Issue t x) = refl
outcome_is w (Commit t) = refl
outcome_is w (Load t x s) = refl
outcome_is w (Clflush t x) = refl
outcome_is w (Clwb t x) = refl
outcome_is w (Sfence t) = refl
outcome_is w (Mfence t) = refl
outcome_is w Crash = refl
outcome_is w (SkipOn t) = refl
outcome_is w (SkipOff t) = refl
outcome_is w (Locked t x s) = refl
outcome_is w (Signal t) = refl
outcome_is w (Wait t s) = refl
outcome_is w (Open t) = refl
outcome_is w (Close t o) = refl

module _ (w : World) (e : Event) (o : Outcome) (is : o ≡ step_o w (kind_of e) (fields_of e)) where
  by_its_rule : o ≡ by_rule (refusal_w w e) w (counts_w w e) (step_w w e)
  by_its_rule = is ∙ outcome_is w e

  pub refusal_told : refusal_w w e ≡ o.refusal
  refusal_told = sym (ap (λ (p : Outcome). p.refusal) by_its_rule ∙ rule_told (refusal_w w e) w _ _)

  module _ (passes : o.refusal ≡ 0) where
    effect : o ≡ record { refusal = 0; counted = counts_w w e; after = step_w w e }
    unfolding by_rule
    effect = by_its_rule ∙ rw (refusal_told ∙ passes) refl

    pub counted_told : o.counted ≡ counts_w w e
    counted_told = ap (λ (p : Outcome). p.counted) effect

    pub after_told : o.after ≡ step_w w e
    after_told = ap (λ (p : Outcome). p.after) effect
