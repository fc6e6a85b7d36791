-- Schedules of tests/vectors and the text that the definitions print for each, computed by the checker. Written by tests/vectors/definitions.
use mathlib.Core.Path.{◌≡◌, refl, sym, ◌∙◌}
use mathlib.Core.List.{List, [], ◌∷◌}
use Prim.Native.String.{String}
use lib.Count.{ones_in, count_trailing_zeros}
use Rattle.container.specs.Choice.{ite}
use Rattle.container.specs.Container.{has, insert, remove, union, cut, below, from, size, least, drop_least, upper_half, lower_half, split_key}
use Rattle.container.specs.Depths.{put, take_out, merge, within, lower, upper}
use Rattle.definitions.specs.Nodes.{check, replaceable}
use Rattle.definitions.specs.Frames.{between, reaches, adding, back}
use Rattle.definitions.specs.Steps.{reached, onward, followed, blocked, lacks, cleared, lost, probe, replaced, beside, reached_first, reached_next, step}
use Rattle.definitions.specs.Records.{taken, stepped, started, asked, record_step}
use Rattle.definitions.specs.Schedule.{count_of, record_at, file_refusal}
use Rattle.definitions.specs.Run.{bytes_of, run_refusal}
use Rattle.definitions.specs.Listing.{decimal, stations_to, stations_text, route_line, base_line, set_line, list_refusal}
use Rattle.definitions.specs.Printed.{action_word, first_line, depth_text, row_line, last_line, printed}
use Rattle.definitions.proofs.Quick.{quick_printed, quick_printed_printed}
use Rattle.vectors.proofs.Written.{file_of, text_of}

-- ---- 0085

abbrev file0085 : List String
file0085 =
    "020006363f003f3000000030000000300000003000000030000000"
    ∷ []

abbrev text0085 : List String
text0085 =
    "records 6 of 6 refusal 0;t3 range 63 no;0 range -;set -;stored 0 used 2;"
    ∷ []

computed0085 : quick_printed (file_of file0085) ≡ text_of text0085
unfolding bytes_of record_at between reaches adding back reached_first reached_next asked put take_out merge within lower upper depth_text row_line
    decimal stations_to stations_text route_line base_line set_line list_refusal check replaceable action_word first_line last_line taken stepped
    started record_step run_refusal count_of file_refusal reached onward followed blocked lacks cleared lost probe replaced beside step ite has insert
    remove union cut below from size least drop_least upper_half lower_half split_key ones_in count_trailing_zeros
computed0085 = refl

pub printed0085 : printed (file_of file0085) ≡ text_of text0085
printed0085 = sym (quick_printed_printed (file_of file0085)) ∙ computed0085

-- ---- 0086

abbrev file0086 : List String
file0086 =
    "020028020302800000000000000000000000000209270f000000000000000000000000040300000000000000000000000000000600003f0000000000"
    ∷ "000000000000000000000000000000000000000000000000000000000000000000000000000000000000000000000000000000000000000000000016"
    ∷ "00000210000000100000001000000010000000100000001000000010000000110900001000000010000000"
    ∷ []

abbrev text0086 : List String
text0086 =
    "records 40 of 40 refusal 0;t0 insert 3 yes;t0 insert 9 yes;t0 split 3 yes;t0 range 0 yes;t1 range 0 no;t1 lookup 9 yes 9"
    ∷ "999;0 route 9;1 range 3=640;1 range 9=9999;set 3=640 9=9999;stored 2 used 9;"
    ∷ []

computed0086 : quick_printed (file_of file0086) ≡ text_of text0086
unfolding bytes_of record_at between reaches adding back reached_first reached_next asked put take_out merge within lower upper depth_text row_line
    decimal stations_to stations_text route_line base_line set_line list_refusal check replaceable action_word first_line last_line taken stepped
    started record_step run_refusal count_of file_refusal reached onward followed blocked lacks cleared lost probe replaced beside step ite has insert
    remove union cut below from size least drop_least upper_half lower_half split_key ones_in count_trailing_zeros
computed0086 = refl

pub printed0086 : printed (file_of file0086) ≡ text_of text0086
printed0086 = sym (quick_printed_printed (file_of file0086)) ∙ computed0086

-- ---- 0087

abbrev file0087 : List String
file0087 =
    "020025020302800000000000000000000000000209270f00000000000000000000000004030000000000000000000000000000160500091000000010"
    ∷ "000000100000001000000010000000260000092000000020000000200000002000000020000000200000002000000020000000200000002000000020"
    ∷ "00000020000000200000002000000010000000100000001000000010000000"
    ∷ []

abbrev text0087 : List String
text0087 =
    "records 37 of 37 refusal 0;t0 insert 3 yes;t0 insert 9 yes;t0 split 3 yes;t2 range 0 yes;t1 range 5 yes;0 route 9;1 rang"
    ∷ "e 3=640;1 range 9=9999;set 3=640 9=9999;stored 2 used 8;"
    ∷ []

computed0087 : quick_printed (file_of file0087) ≡ text_of text0087
unfolding bytes_of record_at between reaches adding back reached_first reached_next asked put take_out merge within lower upper depth_text row_line
    decimal stations_to stations_text route_line base_line set_line list_refusal check replaceable action_word first_line last_line taken stepped
    started record_step run_refusal count_of file_refusal reached onward followed blocked lacks cleared lost probe replaced beside step ite has insert
    remove union cut below from size least drop_least upper_half lower_half split_key ones_in count_trailing_zeros
computed0087 = refl

pub printed0087 : printed (file_of file0087) ≡ text_of text0087
printed0087 = sym (quick_printed_printed (file_of file0087)) ∙ computed0087

-- ---- 0088

abbrev file0088 : List String
file0088 =
    "02002c020302800000000000000000000000000209270f00000000000000000000000004030000000000000000000000000000160000141000000010"
    ∷ "000000100000001000000010000000220400072000000020000000200000002000000020000000200000002000000020000000200000002000000020"
    ∷ "0000002000000020000000200000002000000020000000200000002000000020000000200000002000000010000000100000001000000010000000"
    ∷ []

abbrev text0088 : List String
text0088 =
    "records 44 of 44 refusal 0;t0 insert 3 yes;t0 insert 9 yes;t0 split 3 yes;t2 insert 4 yes;t1 range 0 yes;0 route 9;1 nor"
    ∷ "mal 3=640 4=7;1 range 9=9999;set 3=640 4=7 9=9999;stored 3 used 9;"
    ∷ []

computed0088 : quick_printed (file_of file0088) ≡ text_of text0088
unfolding bytes_of record_at between reaches adding back reached_first reached_next asked put take_out merge within lower upper depth_text row_line
    decimal stations_to stations_text route_line base_line set_line list_refusal check replaceable action_word first_line last_line taken stepped
    started record_step run_refusal count_of file_refusal reached onward followed blocked lacks cleared lost probe replaced beside step ite has insert
    remove union cut below from size least drop_least upper_half lower_half split_key ones_in count_trailing_zeros
computed0088 = refl

pub printed0088 : printed (file_of file0088) ≡ text_of text0088
printed0088 = sym (quick_printed_printed (file_of file0088)) ∙ computed0088

-- ---- 0089

abbrev file0089 : List String
file0089 =
    "020026020302800000000000000000000000000209270f00000000000000000000000004030000000000000000000000000000160000141000000010"
    ∷ "000000100000001000000010000000250300002000000020000000200000002509000020000000200000002000000020000000200000002000000020"
    ∷ "0000002204000520000000200000002000000036030003300000003000000030000000"
    ∷ []

abbrev text0089 : List String
text0089 =
    "records 38 of 38 refusal 0;t0 insert 3 yes;t0 insert 9 yes;t0 split 3 yes;t2 join 3 no;t2 join 9 no;0 route 9;1 range 3="
    ∷ "640;1 normal 9=9999;set 3=640 9=9999;stored 2 used 7;"
    ∷ []

computed0089 : quick_printed (file_of file0089) ≡ text_of text0089
unfolding bytes_of record_at between reaches adding back reached_first reached_next asked put take_out merge within lower upper depth_text row_line
    decimal stations_to stations_text route_line base_line set_line list_refusal check replaceable action_word first_line last_line taken stepped
    started record_step run_refusal count_of file_refusal reached onward followed blocked lacks cleared lost probe replaced beside step ite has insert
    remove union cut below from size least drop_least upper_half lower_half split_key ones_in count_trailing_zeros
computed0089 = refl

pub printed0089 : printed (file_of file0089) ≡ text_of text0089
printed0089 = sym (quick_printed_printed (file_of file0089)) ∙ computed0089

-- ---- 0090

abbrev file0090 : List String
file0090 =
    "02002a020302800000000000000000000000000209270f000000000000000000000000040300000000000000000000000000001600003f1000000005"
    ∷ "090000000000000000000000000000000000000000000000000000000000000000000000000000000000000000000000000000000000000000000000"
    ∷ "000000000000000000000000000000000000000000000010000000100000001000000010000000100000001000000010000000"
    ∷ []

abbrev text0090 : List String
text0090 =
    "records 42 of 42 refusal 0;t0 insert 3 yes;t0 insert 9 yes;t0 split 3 yes;t0 join 9 yes;t1 range 0 yes;0 range 3=640 9=9"
    ∷ "999;set 3=640 9=9999;stored 2 used 10;"
    ∷ []

computed0090 : quick_printed (file_of file0090) ≡ text_of text0090
unfolding bytes_of record_at between reaches adding back reached_first reached_next asked put take_out merge within lower upper depth_text row_line
    decimal stations_to stations_text route_line base_line set_line list_refusal check replaceable action_word first_line last_line taken stepped
    started record_step run_refusal count_of file_refusal reached onward followed blocked lacks cleared lost probe replaced beside step ite has insert
    remove union cut below from size least drop_least upper_half lower_half split_key ones_in count_trailing_zeros
computed0090 = refl

pub printed0090 : printed (file_of file0090) ≡ text_of text0090
printed0090 = sym (quick_printed_printed (file_of file0090)) ∙ computed0090
