-- Schedules of tests/vectors and the text that the definitions print for each, computed by the checker. Written by tests/vectors/definitions.
use mathlib.Core.Path.{◌≡◌, refl, sym, ◌∙◌}
use mathlib.Core.List.{List, [], ◌∷◌}
use Prim.Native.String.{String}
use lib.Count.{ones_in, count_trailing_zeros}
use Rattle.container.specs.Choice.{ite}
use Rattle.container.specs.Container.{has, insert, remove, union, cut, below, from, size, least, drop_least, upper_half, lower_half, split_key}
use Rattle.container.specs.Depths.{put, take_out, merge, within, lower, upper}
use Rattle.definitions.specs.Nodes.{check, replaceable}
use Rattle.definitions.specs.Frames.{between, reaches, adding, back}
use Rattle.definitions.specs.Steps.{reached, onward, followed, blocked, lacks, cleared, lost, probe, replaced, beside, reached_first, reached_next, step}
use Rattle.definitions.specs.Records.{taken, stepped, started, asked, record_step}
use Rattle.definitions.specs.Schedule.{count_of, record_at, file_refusal}
use Rattle.definitions.specs.Run.{bytes_of, run_refusal}
use Rattle.definitions.specs.Listing.{decimal, stations_to, stations_text, route_line, base_line, set_line, list_refusal}
use Rattle.definitions.specs.Printed.{action_word, first_line, depth_text, row_line, last_line, printed}
use Rattle.definitions.proofs.Quick.{quick_printed, quick_printed_printed}
use Rattle.vectors.proofs.Written.{file_of, text_of}

-- ---- 0091

abbrev file0091 : List String
file0091 =
    "02000d020302800000000000000000000000000209270f0000000000000000000000000403000000000000000000000000000016050040"
    ∷ []

abbrev text0091 : List String
text0091 =
    "records 12 of 13 refusal 15;t0 insert 3 yes;t0 insert 9 yes;t0 split 3 yes;0 route 9;1 normal 3=640;1 normal 9=9999;set "
    ∷ "3=640 9=9999;stored 2 used 6;"
    ∷ []

computed0091 : quick_printed (file_of file0091) ≡ text_of text0091
unfolding bytes_of record_at between reaches adding back reached_first reached_next asked put take_out merge within lower upper depth_text row_line
    decimal stations_to stations_text route_line base_line set_line list_refusal check replaceable action_word first_line last_line taken stepped
    started record_step run_refusal count_of file_refusal reached onward followed blocked lacks cleared lost probe replaced beside step ite has insert
    remove union cut below from size least drop_least upper_half lower_half split_key ones_in count_trailing_zeros
computed0091 = refl

pub printed0091 : printed (file_of file0091) ≡ text_of text0091
printed0091 = sym (quick_printed_printed (file_of file0091)) ∙ computed0091

-- ---- 0092

abbrev file0092 : List String
file0092 =
    "02000f020302800000000000000000000000000209270f00000000000000000000000004030000000000000000000000000000160300031000000016"
    ∷ "050004"
    ∷ []

abbrev text0092 : List String
text0092 =
    "records 14 of 15 refusal 15;t0 insert 3 yes;t0 insert 9 yes;t0 split 3 yes;0 route 9;1 normal 3=640;1 normal 9=9999;set "
    ∷ "3=640 9=9999;stored 2 used 6;"
    ∷ []

computed0092 : quick_printed (file_of file0092) ≡ text_of text0092
unfolding bytes_of record_at between reaches adding back reached_first reached_next asked put take_out merge within lower upper depth_text row_line
    decimal stations_to stations_text route_line base_line set_line list_refusal check replaceable action_word first_line last_line taken stepped
    started record_step run_refusal count_of file_refusal reached onward followed blocked lacks cleared lost probe replaced beside step ite has insert
    remove union cut below from size least drop_least upper_half lower_half split_key ones_in count_trailing_zeros
computed0092 = refl

pub printed0092 : printed (file_of file0092) ≡ text_of text0092
printed0092 = sym (quick_printed_printed (file_of file0092)) ∙ computed0092

-- ---- 0093

abbrev file0093 : List String
file0093 =
    "02002d22180000121a000020000000200000002000000010000000100000001000000014180000100000001000000010000000161500171000000010"
    ∷ "0000001000000010000000100000003619001c3000000030000000300000003000000030000000300000003000000030000000300000003000000030"
    ∷ "000000300000003000000030000000300000003000000030000000300000003000000030000000300000003000000030000000300000001000000010"
    ∷ "000000"
    ∷ []

abbrev text0093 : List String
text0093 =
    "records 45 of 45 refusal 0;t2 insert 24 yes;t1 insert 26 yes;t1 split 24 yes;t3 range 25 yes;t1 range 21 no;0 route 26;1"
    ∷ " range 24=0;1 range 26=0;set 24=0 26=0;stored 2 used 9;"
    ∷ []

computed0093 : quick_printed (file_of file0093) ≡ text_of text0093
unfolding bytes_of record_at between reaches adding back reached_first reached_next asked put take_out merge within lower upper depth_text row_line
    decimal stations_to stations_text route_line base_line set_line list_refusal check replaceable action_word first_line last_line taken stepped
    started record_step run_refusal count_of file_refusal reached onward followed blocked lacks cleared lost probe replaced beside step ite has insert
    remove union cut below from size least drop_least upper_half lower_half split_key ones_in count_trailing_zeros
computed0093 = refl

pub printed0093 : printed (file_of file0093) ≡ text_of text0093
printed0093 = sym (quick_printed_printed (file_of file0093)) ∙ computed0093

-- ---- 0094

abbrev file0094 : List String
file0094 =
    "02002a221800002000000020000000200000003217000014180000300000003000000030000000100000001000000010000000361500183000000030"
    ∷ "000000300000001217000010000000300000003000000010000000100000001000000010000000100000001000000010000000100000001000000010"
    ∷ "000000100000001000000010000000100000001000000010000000100000001000000030000000300000003000000030000000"
    ∷ []

abbrev text0094 : List String
text0094 =
    "records 42 of 42 refusal 0;t2 insert 24 yes;t3 insert 23 yes;t1 split 24 yes;t1 insert 23 no;t3 range 21 yes;0 route 24;"
    ∷ "1 normal 23=0;1 range 24=0;set 23=0 24=0;stored 2 used 9;"
    ∷ []

computed0094 : quick_printed (file_of file0094) ≡ text_of text0094
unfolding bytes_of record_at between reaches adding back reached_first reached_next asked put take_out merge within lower upper depth_text row_line
    decimal stations_to stations_text route_line base_line set_line list_refusal check replaceable action_word first_line last_line taken stepped
    started record_step run_refusal count_of file_refusal reached onward followed blocked lacks cleared lost probe replaced beside step ite has insert
    remove union cut below from size least drop_least upper_half lower_half split_key ones_in count_trailing_zeros
computed0094 = refl

pub printed0094 : printed (file_of file0094) ≡ text_of text0094
printed0094 = sym (quick_printed_printed (file_of file0094)) ∙ computed0094

-- ---- 0095

abbrev file0095 : List String
file0095 =
    "02002a0217000000000000000000000000000012120000100000001000000010000000141600001000000010000000100000002616003f2000000020"
    ∷ "000000200000002000000020000000200000002000000012170000100000001000000010000000100000001000000010000000200000002000000020"
    ∷ "000000200000002000000020000000200000002000000020000000200000002000000020000000200000002000000020000000"
    ∷ []

abbrev text0095 : List String
text0095 =
    "records 42 of 42 refusal 0;t0 insert 23 yes;t1 insert 18 yes;t1 split 22 yes;t1 insert 23 no;t2 range 22 yes;0 route 23;"
    ∷ "1 range 18=0;1 range 23=0;set 18=0 23=0;stored 2 used 9;"
    ∷ []

computed0095 : quick_printed (file_of file0095) ≡ text_of text0095
unfolding bytes_of record_at between reaches adding back reached_first reached_next asked put take_out merge within lower upper depth_text row_line
    decimal stations_to stations_text route_line base_line set_line list_refusal check replaceable action_word first_line last_line taken stepped
    started record_step run_refusal count_of file_refusal reached onward followed blocked lacks cleared lost probe replaced beside step ite has insert
    remove union cut below from size least drop_least upper_half lower_half split_key ones_in count_trailing_zeros
computed0095 = refl

pub printed0095 : printed (file_of file0095) ≡ text_of text0095
printed0095 = sym (quick_printed_printed (file_of file0095)) ∙ computed0095

-- ---- 0096

abbrev file0096 : List String
file0096 =
    "02002c222400002000000012230000200000002000000010000000100000001000000014210000100000001000000010000000262000272000000020"
    ∷ "000000200000000323000000000000200000002000000000000000000000000000000000000000200000002000000020000000200000002000000020"
    ∷ "0000002000000020000000200000002000000020000000000000000000000000000000000000000000000000000000000000000000000000000000"
    ∷ []

abbrev text0096 : List String
text0096 =
    "records 44 of 44 refusal 0;t2 insert 36 yes;t1 insert 35 yes;t1 split 33 yes;t2 range 32 yes;t0 remove 35 yes;0 route 36"
    ∷ ";1 normal -;1 range 36=0;set 36=0;stored 1 used 9;"
    ∷ []

computed0096 : quick_printed (file_of file0096) ≡ text_of text0096
unfolding bytes_of record_at between reaches adding back reached_first reached_next asked put take_out merge within lower upper depth_text row_line
    decimal stations_to stations_text route_line base_line set_line list_refusal check replaceable action_word first_line last_line taken stepped
    started record_step run_refusal count_of file_refusal reached onward followed blocked lacks cleared lost probe replaced beside step ite has insert
    remove union cut below from size least drop_least upper_half lower_half split_key ones_in count_trailing_zeros
computed0096 = refl

pub printed0096 : printed (file_of file0096) ≡ text_of text0096
printed0096 = sym (quick_printed_printed (file_of file0096)) ∙ computed0096
