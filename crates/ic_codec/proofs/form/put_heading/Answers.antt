use Rattle.std.proofs.Common.{ℕ, List, ◌∷◌, ◌++◌, [], refl, ap}
use Rattle.ic_codec.specs.declared.form.Heading.{Heading}
use Rattle.ic_jobs.specs.State.{state_number}
use Rattle.ic_codec.specs.Form.{budget_number}
use Rattle.ic_codec.specs.Numbers.{eight_bytes}
use Rattle.ic_codec.specs.Texts.{text_bytes}
use Rattle.ic_codec.proofs.Appending.{first_fits, rest_fits}
use Rattle.ic_codec.proofs.form.put_heading.Goals as goal

-- what stands after the rounds, the state and the name
abbrev after_rounds : Heading → List ℕ
after_rounds h = eight_bytes (budget_number h.budget) ++ eight_bytes h.next

abbrev after_state : Heading → List ℕ
after_state h = eight_bytes h.rounds ++ after_rounds h

pub put_text-requires : goal.put_text-requires
put_text-requires c =
    let h = c.args.heading in
    first_fits (text_bytes h.name) (state_number h.state ∷ after_state h) _ (ap text_bytes c.as_bytes.ensures.text) c.requires

pub put_byte-requires : goal.put_byte-requires
put_byte-requires c =
    let h = c.args.heading in
    let after = rest_fits (text_bytes h.name) (state_number h.state ∷ after_state h) _ (ap text_bytes c.as_bytes.ensures.text) c.requires c.put_text.ensures in
    first_fits (state_number h.state ∷ []) (after_state h) _ (ap (λ b. b ∷ []) c.state_byte.ensures) after

pub put_eight_bytes-requires : goal.put_eight_bytes-requires
put_eight_bytes-requires c =
    let h = c.args.heading in
    let after = rest_fits (text_bytes h.name) (state_number h.state ∷ after_state h) _ (ap text_bytes c.as_bytes.ensures.text) c.requires c.put_text.ensures in
    let left = rest_fits (state_number h.state ∷ []) (after_state h) _ (ap (λ b. b ∷ []) c.state_byte.ensures) after c.put_byte.ensures in
    first_fits (eight_bytes h.rounds) (after_rounds h) _ refl left

pub put_eight_bytes-requires-2 : goal.put_eight_bytes-requires-2
put_eight_bytes-requires-2 c =
    let h = c.args.heading in
    let after = rest_fits (text_bytes h.name) (state_number h.state ∷ after_state h) _ (ap text_bytes c.as_bytes.ensures.text) c.requires c.put_text.ensures in
    let left = rest_fits (state_number h.state ∷ []) (after_state h) _ (ap (λ b. b ∷ []) c.state_byte.ensures) after c.put_byte.ensures in
    let last = rest_fits (eight_bytes h.rounds) (after_rounds h) _ refl left c.put_eight_bytes.ensures in
    first_fits (eight_bytes (budget_number h.budget)) (eight_bytes h.next) _ (ap eight_bytes c.budget_number.ensures) last

pub put_eight_bytes-requires-3 : goal.put_eight_bytes-requires-3
put_eight_bytes-requires-3 c =
    let h = c.args.heading in
    let after = rest_fits (text_bytes h.name) (state_number h.state ∷ after_state h) _ (ap text_bytes c.as_bytes.ensures.text) c.requires c.put_text.ensures in
    let left = rest_fits (state_number h.state ∷ []) (after_state h) _ (ap (λ b. b ∷ []) c.state_byte.ensures) after c.put_byte.ensures in
    let last = rest_fits (eight_bytes h.rounds) (after_rounds h) _ refl left c.put_eight_bytes.ensures in
    rest_fits (eight_bytes (budget_number h.budget)) (eight_bytes h.next) _ (ap eight_bytes c.budget_number.ensures) last c.put_eight_bytes-2.ensures
