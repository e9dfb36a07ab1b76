-- Made by `python3 tests/make_cases.py` from lists and answers of the second engine: edit that and not this file.
-- Each list of calls is that of its seed: the answers, and a sound session after each call.
use Rattle.std.specs.Prelude.{◌≡◌, refl, true, [], ◌∷◌}
use Rattle.rules.specs.Step.{fresh_session}
use Rattle.cases.specs.Along.{line, sound_along}

seed925 : sound_along fresh_session (
    line 9 (0 ∷ []) 9 0
    ∷ line 10 (2 ∷ []) 0 0
    ∷ line 5 (0 ∷ 1 ∷ 0 ∷ 0 ∷ 3 ∷ []) 8 0
    ∷ line 5 (0 ∷ 0 ∷ 0 ∷ 513 ∷ 2 ∷ []) 8 0
    ∷ line 11 (2 ∷ []) 0 0
    ∷ line 1 (2 ∷ 0 ∷ []) 0 3
    ∷ line 6 (2 ∷ 0 ∷ 1 ∷ 1 ∷ []) 9 0
    ∷ line 3 (2 ∷ 3 ∷ []) 0 4
    ∷ line 2 (2 ∷ 3 ∷ 0 ∷ 0 ∷ 0 ∷ []) 0 5
    ∷ line 5 (2 ∷ 4 ∷ 4 ∷ 0 ∷ 0 ∷ []) 7 0
    ∷ line 10 (5 ∷ []) 0 0
    ∷ line 5 (2 ∷ 1 ∷ 4 ∷ 0 ∷ 2 ∷ []) 0 0
    ∷ line 2 (2 ∷ 3 ∷ 0 ∷ 1 ∷ 0 ∷ []) 0 6
    ∷ line 11 (5 ∷ []) 0 0
    ∷ line 5 (5 ∷ 4 ∷ 4 ∷ 0 ∷ 3 ∷ []) 0 1
    ∷ line 3 (5 ∷ 2 ∷ []) 0 7
    ∷ line 9 (1 ∷ []) 0 0
    ∷ line 5 (2 ∷ 7 ∷ 0 ∷ 1 ∷ 2 ∷ []) 9 0
    ∷ line 10 (6 ∷ []) 0 0
    ∷ line 11 (6 ∷ []) 0 0
    ∷ line 6 (5 ∷ 7 ∷ 1 ∷ 0 ∷ []) 0 0
    ∷ line 3 (5 ∷ 4 ∷ []) 0 8
    ∷ line 12 (5 ∷ 1 ∷ []) 0 1
    ∷ line 8 (6 ∷ 7 ∷ []) 0 0
    ∷ line 8 (6 ∷ 8 ∷ []) 0 0
    ∷ []) ≡ true
unfolding sound_along
seed925 = refl

seed1156 : sound_along fresh_session (
    line 1 (0 ∷ 3 ∷ []) 8 0
    ∷ line 12 (18446744073709551615 ∷ 16383 ∷ []) 9 0
    ∷ line 10 (2 ∷ []) 0 0
    ∷ line 11 (2 ∷ []) 0 0
    ∷ line 3 (2 ∷ 2 ∷ []) 0 3
    ∷ line 5 (2 ∷ 1 ∷ 3 ∷ 0 ∷ 2 ∷ []) 0 0
    ∷ line 1 (2 ∷ 2 ∷ []) 0 4
    ∷ line 5 (2 ∷ 3 ∷ 3 ∷ 0 ∷ 3 ∷ []) 0 1
    ∷ line 5 (2 ∷ 1 ∷ 3 ∷ 0 ∷ 1 ∷ []) 0 0
    ∷ line 10 (0 ∷ []) 9 0
    ∷ line 7 (2 ∷ 1 ∷ []) 0 0
    ∷ line 7 (2 ∷ 1 ∷ []) 15 0
    ∷ line 10 (1 ∷ []) 10 0
    ∷ line 2 (2 ∷ 4 ∷ 2 ∷ 1 ∷ 1 ∷ []) 0 5
    ∷ line 5 (2 ∷ 3 ∷ 5 ∷ 0 ∷ 2 ∷ []) 0 2
    ∷ line 5 (2 ∷ 6 ∷ 4294967296 ∷ 0 ∷ 1 ∷ []) 9 0
    ∷ line 6 (2 ∷ 3 ∷ 1 ∷ 0 ∷ []) 0 0
    ∷ line 5 (2 ∷ 3 ∷ 3 ∷ 0 ∷ 1 ∷ []) 0 3
    ∷ line 9 (1 ∷ []) 0 0
    ∷ line 2 (2 ∷ 4 ∷ 2 ∷ 1 ∷ 0 ∷ []) 0 7
    ∷ line 4 (2 ∷ 1 ∷ []) 0 8
    ∷ line 10 (2048 ∷ []) 9 0
    ∷ line 5 (2 ∷ 3 ∷ 5 ∷ 1 ∷ 4 ∷ []) 0 4
    ∷ line 6 (2 ∷ 0 ∷ 0 ∷ 0 ∷ []) 9 0
    ∷ line 10 (7 ∷ []) 16 0
    ∷ []) ≡ true
unfolding sound_along
seed1156 = refl

seed2361 : sound_along fresh_session (
    line 10 (2 ∷ []) 0 0
    ∷ line 11 (2 ∷ []) 0 0
    ∷ line 11 (1 ∷ []) 10 0
    ∷ line 5 (11 ∷ 1 ∷ 0 ∷ 1 ∷ 4 ∷ []) 8 0
    ∷ line 5 (2 ∷ 1 ∷ 0 ∷ 0 ∷ 0 ∷ []) 7 0
    ∷ line 4 (2 ∷ 1 ∷ []) 0 3
    ∷ line 1 (2 ∷ 17 ∷ []) 0 4
    ∷ line 8 (2 ∷ 2 ∷ []) 16 0
    ∷ line 1 (2 ∷ 2 ∷ []) 0 5
    ∷ line 5 (9506918374815754531 ∷ 9223372036854775808 ∷ 18446744073709551615 ∷ 513 ∷ 18 ∷ []) 7 0
    ∷ line 3 (2 ∷ 2 ∷ []) 0 6
    ∷ line 6 (2 ∷ 6 ∷ 0 ∷ 0 ∷ []) 0 0
    ∷ line 5 (2 ∷ 0 ∷ 6 ∷ 0 ∷ 1 ∷ []) 0 0
    ∷ line 2 (2 ∷ 4 ∷ 1 ∷ 1 ∷ 1 ∷ []) 0 7
    ∷ line 2 (4294967296 ∷ 4 ∷ 1 ∷ 0 ∷ 1 ∷ []) 8 0
    ∷ line 5 (2 ∷ 6 ∷ 7 ∷ 0 ∷ 2 ∷ []) 0 1
    ∷ line 3 (0 ∷ 1 ∷ []) 8 0
    ∷ line 3 (2 ∷ 3 ∷ []) 0 9
    ∷ line 5 (2 ∷ 6 ∷ 6 ∷ 0 ∷ 1 ∷ []) 0 2
    ∷ line 10 (2 ∷ []) 16 0
    ∷ line 6 (2 ∷ 6 ∷ 1 ∷ 1 ∷ []) 12 0
    ∷ line 5 (2 ∷ 3 ∷ 2 ∷ 0 ∷ 3 ∷ []) 13 0
    ∷ line 10 (0 ∷ []) 9 0
    ∷ line 5 (2 ∷ 6 ∷ 6 ∷ 1 ∷ 10 ∷ []) 7 0
    ∷ line 9 (1 ∷ []) 0 0
    ∷ []) ≡ true
unfolding sound_along
seed2361 = refl

seed2784 : sound_along fresh_session (
    line 10 (2 ∷ []) 0 0
    ∷ line 11 (2 ∷ []) 0 0
    ∷ line 3 (2 ∷ 1 ∷ []) 0 3
    ∷ line 0 (16383 ∷ 4294967298 ∷ 18446744073709551615 ∷ 18446744073709551614 ∷ 2049 ∷ []) 6 0
    ∷ line 3 (2 ∷ 2 ∷ []) 0 4
    ∷ line 5 (2 ∷ 3 ∷ 3 ∷ 0 ∷ 2 ∷ []) 0 1
    ∷ line 8 (2 ∷ 4 ∷ []) 0 0
    ∷ line 3 (2 ∷ 4 ∷ []) 0 5
    ∷ line 1 (2 ∷ 17 ∷ []) 0 6
    ∷ line 4 (2 ∷ 1 ∷ []) 0 7
    ∷ line 4 (2 ∷ 0 ∷ []) 0 8
    ∷ line 2 (2 ∷ 6 ∷ 17 ∷ 1 ∷ 1 ∷ []) 12 0
    ∷ line 1 (2 ∷ 1 ∷ []) 0 9
    ∷ line 7 (2 ∷ 7 ∷ []) 0 0
    ∷ line 2 (2 ∷ 9 ∷ 17 ∷ 1 ∷ 0 ∷ []) 0 10
    ∷ line 6 (2 ∷ 3 ∷ 0 ∷ 0 ∷ []) 0 0
    ∷ line 9 (1 ∷ []) 0 0
    ∷ line 5 (2 ∷ 1 ∷ 1 ∷ 1 ∷ 4 ∷ []) 10 0
    ∷ line 5 (2 ∷ 1 ∷ 10 ∷ 0 ∷ 3 ∷ []) 0 0
    ∷ line 10 (10 ∷ []) 18 0
    ∷ line 5 (2 ∷ 5 ∷ 5 ∷ 0 ∷ 4 ∷ []) 0 2
    ∷ line 10 (6 ∷ []) 10 0
    ∷ line 10 (2 ∷ []) 16 0
    ∷ line 7 (2 ∷ 8 ∷ []) 15 0
    ∷ line 3 (2 ∷ 4 ∷ []) 0 11
    ∷ []) ≡ true
unfolding sound_along
seed2784 = refl

seed3168 : sound_along fresh_session (
    line 10 (2 ∷ []) 0 0
    ∷ line 9 (0 ∷ []) 9 0
    ∷ line 10 (1 ∷ []) 10 0
    ∷ line 11 (2 ∷ []) 0 0
    ∷ line 6 (2 ∷ 1 ∷ 1 ∷ 1 ∷ []) 10 0
    ∷ line 5 (2 ∷ 1 ∷ 0 ∷ 0 ∷ 3 ∷ []) 9 0
    ∷ line 5 (2 ∷ 0 ∷ 0 ∷ 1 ∷ 5790889341194010425 ∷ []) 7 0
    ∷ line 3 (2 ∷ 4 ∷ []) 0 3
    ∷ line 8 (2 ∷ 2 ∷ []) 16 0
    ∷ line 3 (2 ∷ 4 ∷ []) 0 4
    ∷ line 5 (2 ∷ 1 ∷ 3 ∷ 16383 ∷ 3 ∷ []) 12 0
    ∷ line 6 (2 ∷ 3 ∷ 1 ∷ 0 ∷ []) 0 0
    ∷ line 5 (2 ∷ 1 ∷ 0 ∷ 1 ∷ 2 ∷ []) 9 0
    ∷ line 4 (2 ∷ 9223372036854775808 ∷ []) 7 0
    ∷ line 5 (2 ∷ 3 ∷ 3 ∷ 1 ∷ 1 ∷ []) 0 1
    ∷ line 5 (2 ∷ 4 ∷ 2 ∷ 1 ∷ 1 ∷ []) 12 0
    ∷ line 8 (2 ∷ 4 ∷ []) 0 0
    ∷ line 6 (2 ∷ 3 ∷ 1 ∷ 0 ∷ []) 0 0
    ∷ line 6 (2 ∷ 3 ∷ 1 ∷ 1 ∷ []) 0 0
    ∷ line 3 (1 ∷ 2 ∷ []) 8 0
    ∷ line 1 (2 ∷ 1 ∷ []) 0 5
    ∷ line 5 (2 ∷ 3 ∷ 3 ∷ 0 ∷ 3 ∷ []) 0 2
    ∷ line 4 (3 ∷ 1 ∷ []) 8 0
    ∷ line 2 (2 ∷ 5 ∷ 1 ∷ 1 ∷ 1 ∷ []) 0 6
    ∷ line 11 (6 ∷ []) 16 0
    ∷ []) ≡ true
unfolding sound_along
seed3168 = refl
