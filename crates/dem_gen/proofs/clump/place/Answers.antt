use Rattle.std.proofs.Common.{◌≡◌, ◌∙◌, ◌*◌, ◌/◌, ◌%◌, ap, w64}
use Rattle.std.proofs.lemmas.Int.{to_z-of_z}
use Rattle.dem_model.specs.Made.{made_place, place_in, state_after, word_of}
use Rattle.dem_gen.proofs.WordFacts.{after_more, word_later}
use Rattle.dem_gen.proofs.clump.place.Goals as goal

pub returns-clause-value : goal.returns-clause-value
unfolding made_place
returns-clause-value c =
    let words = c.args.words.now in
    let second : c.draw-2.result ≡ word_of words 1 = c.draw-2.ensures.word ∙ ap (λ w. word_of w 0) c.draw.ensures.after ∙ word_later words 1 0 in
    let after : c.draw-2.new.words ≡ state_after words 2 = c.draw-2.ensures.after ∙ ap (λ w. state_after w 1) c.draw.ensures.after ∙ after_more words 1 1 in
    let third : c.draw-3.result ≡ word_of words 2 = c.draw-3.ensures.word ∙ ap (λ w. word_of w 0) after ∙ word_later words 2 0 in
    let x = to_z-of_z w64 c.place_in-x.result (record { sfits = c.place_in-x.type_inv }) ∙ c.place_in-x.ensures ∙ ap (place_in (c.args.i % c.args.edge)) c.draw.ensures.word in
    let y = to_z-of_z w64 c.place_in-y.result (record { sfits = c.place_in-y.type_inv }) ∙ c.place_in-y.ensures ∙ ap (place_in (c.args.i / c.args.edge % c.args.edge)) second in
    let z = to_z-of_z w64 c.place_in-z.result (record { sfits = c.place_in-z.type_inv }) ∙ c.place_in-z.ensures ∙ ap (place_in (c.args.i / (c.args.edge * c.args.edge))) third in
    λ i. record { x = x i; y = y i; z = z i }
