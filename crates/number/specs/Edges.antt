-- P6 of document 01, and numbers at the limits, computed.
use Rattle.std.specs.Prelude.{◌≡◌, refl, [], ◌∷◌, Ok, Err}
use Rattle.number.specs.Number.{limit32, encode, encode_in, read_at, read_first, judged, shortest, last_byte, value, more}
use Rattle.number.specs.Fed.{start, spoilt, group_fits, short_end, ended, onward, fed, feeds}
use Rattle.number.specs.declared.Unread.TheVariants.{Bad, CutShort}

-- "bytes 128 0: refusal 4; 128 1 is 128". A bad number is refusal 4.
pub P6 : (read_at limit32 (128 ∷ 0 ∷ []) 0 ≡ Err (Bad 2)) × (read_at limit32 (128 ∷ 1 ∷ []) 0 ≡ Ok (128, 2)) × (encode 128 ≡ 128 ∷ 1 ∷ [])
unfolding read_at read_first judged shortest last_byte value more encode encode_in
P6 = (refl, refl, refl)

-- A limit is a value, and one more is bad.
pub at_limit_32 : (read_at limit32 (255 ∷ 255 ∷ 255 ∷ 255 ∷ 15 ∷ []) 0 ≡ Ok (limit32, 5))
    × (encode limit32 ≡ 255 ∷ 255 ∷ 255 ∷ 255 ∷ 15 ∷ [])
    × (read_at limit32 (128 ∷ 128 ∷ 128 ∷ 128 ∷ 16 ∷ []) 0 ≡ Err (Bad 5))
unfolding read_at read_first judged shortest last_byte value more encode encode_in
at_limit_32 = (refl, refl, refl)

pub at_limit_64 : (read_at 18446744073709551615 (255 ∷ 255 ∷ 255 ∷ 255 ∷ 255 ∷ 255 ∷ 255 ∷ 255 ∷ 255 ∷ 1 ∷ []) 0
    ≡ Ok (18446744073709551615, 10))
    × (encode 18446744073709551615 ≡ 255 ∷ 255 ∷ 255 ∷ 255 ∷ 255 ∷ 255 ∷ 255 ∷ 255 ∷ 255 ∷ 1 ∷ [])
    × (read_at 18446744073709551615 (128 ∷ 128 ∷ 128 ∷ 128 ∷ 128 ∷ 128 ∷ 128 ∷ 128 ∷ 128 ∷ 2 ∷ []) 0 ≡ Err (Bad 10))
unfolding read_at read_first judged shortest last_byte value more encode encode_in
at_limit_64 = (refl, refl, refl)

-- More bytes than any value below 2^64 takes: bad once a last byte comes, be it 0 or 1.
pub long : (read_at 18446744073709551615 (128 ∷ 128 ∷ 128 ∷ 128 ∷ 128 ∷ 128 ∷ 128 ∷ 128 ∷ 128 ∷ 128 ∷ 128 ∷ 0 ∷ 7 ∷ []) 0 ≡ Err (Bad 12))
    × (read_at 18446744073709551615 (128 ∷ 128 ∷ 128 ∷ 128 ∷ 128 ∷ 128 ∷ 128 ∷ 128 ∷ 128 ∷ 128 ∷ 128 ∷ 1 ∷ 7 ∷ []) 0 ≡ Err (Bad 12))
unfolding read_at read_first judged shortest last_byte value more
long = (refl, refl)

-- Cut short: no byte at all, a place past the end, and no last byte however many there are.
pub cut : (read_at limit32 [] 0 ≡ Err CutShort)
    × (read_at limit32 (1 ∷ []) 7 ≡ Err CutShort)
    × (read_at limit32 (9 ∷ 128 ∷ 128 ∷ 128 ∷ 128 ∷ 128 ∷ 128 ∷ []) 1 ≡ Err CutShort)
unfolding read_at read_first judged shortest last_byte value more
cut = (refl, refl, refl)

-- The same of bytes that are fed one by one.
pub fed_p6 : (feeds limit32 start (128 ∷ 0 ∷ []) 0 ≡ Err (Bad 2)) × (feeds limit32 start (128 ∷ 1 ∷ []) 0 ≡ Ok (128, 2))
unfolding feeds fed ended onward short_end group_fits start spoilt
fed_p6 = (refl, refl)

pub fed_limit_32 : (feeds limit32 start (255 ∷ 255 ∷ 255 ∷ 255 ∷ 15 ∷ []) 0 ≡ Ok (limit32, 5))
    × (feeds limit32 start (128 ∷ 128 ∷ 128 ∷ 128 ∷ 16 ∷ []) 0 ≡ Err (Bad 5))
unfolding feeds fed ended onward short_end group_fits start spoilt
fed_limit_32 = (refl, refl)

pub fed_limit_64 : (feeds 18446744073709551615 start (255 ∷ 255 ∷ 255 ∷ 255 ∷ 255 ∷ 255 ∷ 255 ∷ 255 ∷ 255 ∷ 1 ∷ []) 0
    ≡ Ok (18446744073709551615, 10))
    × (feeds 18446744073709551615 start (128 ∷ 128 ∷ 128 ∷ 128 ∷ 128 ∷ 128 ∷ 128 ∷ 128 ∷ 128 ∷ 2 ∷ []) 0 ≡ Err (Bad 10))
unfolding feeds fed ended onward short_end group_fits start spoilt
fed_limit_64 = (refl, refl)

pub fed_long : (feeds 18446744073709551615 start (128 ∷ 128 ∷ 128 ∷ 128 ∷ 128 ∷ 128 ∷ 128 ∷ 128 ∷ 128 ∷ 128 ∷ 128 ∷ 0 ∷ 7 ∷ []) 0
    ≡ Err (Bad 12))
    × (feeds 18446744073709551615 start (128 ∷ 128 ∷ 128 ∷ 128 ∷ 128 ∷ 128 ∷ 128 ∷ 128 ∷ 128 ∷ 128 ∷ 128 ∷ 1 ∷ 7 ∷ []) 0 ≡ Err (Bad 12))
unfolding feeds fed ended onward short_end group_fits start spoilt
fed_long = (refl, refl)

pub fed-cut : (feeds limit32 start [] 0 ≡ Err CutShort) × (feeds limit32 start (128 ∷ 128 ∷ 128 ∷ 128 ∷ 128 ∷ 128 ∷ []) 1 ≡ Err CutShort)
unfolding feeds fed ended onward short_end group_fits start spoilt
fed-cut = (refl, refl)
