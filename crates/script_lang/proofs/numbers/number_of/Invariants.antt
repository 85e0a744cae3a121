use Rattle.std.proofs.Common.{◌≡◌, ◌^◌, ◌<◌, drop}
use Rattle.std.specs.List.{list_all}
use Rattle.std.specs.Char.{is_ascii_digit}
use Rattle.std.specs.Str.Parse.{digits_value, digits_value_after}
use Rattle.script_lang.proofs.numbers.number_of.Given as goal

-- the digits so far write the number, and decide nothing of those that follow
abbrev pub invariant-loop-b : goal.invariant-loop-b
invariant-loop-b l = record {
  small : l.number < 10 ^ l.b-index;
  number : digits_value_after 10 l.number (drop l.b-index l.text) ≡ digits_value 10 l.text;
  digits : list_all is_ascii_digit (drop l.b-index l.text) ≡ list_all is_ascii_digit l.text;
}
