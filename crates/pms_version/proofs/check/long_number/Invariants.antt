use Rattle.std.proofs.Common.{◌≡◌, ◌≤◌, ◌-◌, ℕ, ◌<◌, get_or, true}
use Rattle.basics.specs.Bytes.{is_digit}
use Rattle.pms_version.specs.Reading.{IsShortBefore}
use Rattle.pms_version.proofs.check.long_number.Given as goal

abbrev pub invariant-loop-at : goal.invariant-loop-at
invariant-loop-at l = record {
  started : l.start ≤ l.at;
  few : l.at - l.start ≤ 38;
  digits : (k : ℕ) → l.start ≤ k → k < l.at → is_digit (get_or l.bytes k 0) ≡ true;
  short : IsShortBefore l.bytes l.start;
}
