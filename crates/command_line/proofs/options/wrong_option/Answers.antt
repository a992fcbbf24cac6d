use Rattle.std.proofs.Common.{◌≡◌, ◌+◌, ◌-◌, length, take, drop, sym, ap, ◌∙◌, arith, rules, true, None, Some, string_bytes}
use Rattle.command_line.specs.Options.{texts, is_option, allowed, wrong_pair, wrong_last}
use Rattle.command_line.proofs.OptionLaws.{two_words, left_two, pair_wrong, pair_right, last_wrong}
use Rattle.command_line.proofs.options.wrong_option.Goals as goal

pub returns-in-Some : goal.returns-in-Some
returns-in-Some c =
    let words = c.args.words.now in
    let options = c.args.options.now in
    let place = c.loop-rest.place in
    let rest = c.loop-rest.rest.now in
    let before = texts (take (place - 1) words) in
    let w = c.word-item.result in
    let v = c.value-item.result in
    let after = take (length rest - 2) (drop 2 rest) in
    let two = two_words rest w v c.in-len2-up.len_at_least c.word-item.is c.value-item.is in
    let w_is = c.as_str-word.ensures.value in
    let dashes : is_option (string_bytes w) ≡ true = search rules in
    let pair : wrong_pair (allowed options before (string_bytes w)) (string_bytes v) place ≡ Some c.in-Some.wrong = search rules in
    sym (pair_wrong options before place rest after w v c.in-Some.wrong two dashes pair) ∙ c.loop-rest.invariant.same

pub returns-else-not-is_option-2 : goal.returns-else-not-is_option-2
returns-else-not-is_option-2 c =
    let words = c.args.words.now in
    let options = c.args.options.now in
    let place = c.loop-rest.place in
    let rest = c.loop-rest.rest.now in
    let before = texts (take (place - 1) words) in
    let w = c.word-item-then-rest-lt2-2.result in
    let dashes : is_option (string_bytes w) ≡ true = search rules in
    let last : c.wrong_last.result ≡ wrong_last (allowed options before (string_bytes w)) place = search rules in
    ap (λ n. Some n) last ∙ sym (last_wrong options before place rest w c.in-len1.len_at_least c.in_default.len_below c.word-item-then-rest-lt2-2.is dashes) ∙ c.loop-rest.invariant.same

pub loop-rest-preserved : goal.loop-rest-preserved
loop-rest-preserved c =
    let words = c.args.words.now in
    let options = c.args.options.now in
    let place = c.loop-rest.place in
    let rest = c.loop-rest.rest.now in
    let before = texts (take (place - 1) words) in
    let w = c.word-item.result in
    let v = c.value-item.result in
    let after = take (length rest - 2) (drop 2 rest) in
    let i = c.loop-rest.invariant in
    let two = two_words rest w v c.in-len2-up.len_at_least c.word-item.is c.value-item.is in
    let dashes : is_option (string_bytes w) ≡ true = search rules in
    let pair : wrong_pair (allowed options before (string_bytes w)) (string_bytes v) place ≡ None = search rules in
    record {
      behind = omega arith;
      place_is = omega (arith, i.place_is, ap length two);
      rest_is = left_two (place - 1) (place + 2 - 1) words w v after (omega (arith, i.behind)) (sym i.rest_is ∙ two);
      same = pair_right options words rest after w v place i.behind i.rest_is two dashes pair ∙ i.same;
    }
