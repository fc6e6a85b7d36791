-- Schedules of tests/vectors and the text that the definitions print for each, computed by the checker. Written by tests/vectors/definitions.
use mathlib.Core.Path.{◌≡◌, refl, sym, ◌∙◌}
use mathlib.Core.List.{List, [], ◌∷◌}
use Prim.Native.String.{String}
use lib.Count.{ones_in, count_trailing_zeros}
use Rattle.container.specs.Choice.{ite}
use Rattle.container.specs.Container.{has, insert, remove, union, cut, below, from, size, least, drop_least, upper_half, lower_half, split_key}
use Rattle.container.specs.Depths.{put, take_out, merge, within, lower, upper}
use Rattle.definitions.specs.Nodes.{check, replaceable}
use Rattle.definitions.specs.Frames.{between, reaches, adding, back}
use Rattle.definitions.specs.Steps.{reached, onward, followed, blocked, lacks, cleared, lost, probe, replaced, beside, reached_first, reached_next, step}
use Rattle.definitions.specs.Records.{taken, stepped, started, asked, record_step}
use Rattle.definitions.specs.Schedule.{count_of, record_at, file_refusal}
use Rattle.definitions.specs.Run.{bytes_of, run_refusal}
use Rattle.definitions.specs.Listing.{decimal, stations_to, stations_text, route_line, base_line, set_line, list_refusal}
use Rattle.definitions.specs.Printed.{action_word, first_line, depth_text, row_line, last_line, printed}
use Rattle.definitions.proofs.Quick.{quick_printed, quick_printed_printed}
use Rattle.vectors.proofs.Written.{file_of, text_of}

-- ---- 0097

abbrev file0097 : List String
file0097 =
    "020010021200000000000000000000000000002613003f20000000200000002000000036100012300000003000000030000000300000003000000020"
    ∷ "00000020000000"
    ∷ []

abbrev text0097 : List String
text0097 =
    "records 16 of 16 refusal 0;t0 insert 18 yes;t3 range 16 yes;t2 range 19 no;0 range 18=0;set 18=0;stored 1 used 3;"
    ∷ []

computed0097 : quick_printed (file_of file0097) ≡ text_of text0097
unfolding bytes_of record_at between reaches adding back reached_first reached_next asked put take_out merge within lower upper depth_text row_line
    decimal stations_to stations_text route_line base_line set_line list_refusal check replaceable action_word first_line last_line taken stepped
    started record_step run_refusal count_of file_refusal reached onward followed blocked lacks cleared lost probe replaced beside step ite has insert
    remove union cut below from size least drop_least upper_half lower_half split_key ones_in count_trailing_zeros
computed0097 = refl

pub printed0097 : printed (file_of file0097) ≡ text_of text0097
printed0097 = sym (quick_printed_printed (file_of file0097)) ∙ computed0097

-- ---- 0098

abbrev file0098 : List String
file0098 =
    "02001d0215000000000000000000000000000012190000100000001000000010000000141d00001000000010000000100000002613001d2000000020"
    ∷ "0000002000000020000000200000002000000020000000200000002000000020000000200000002000000020000000200000002000000020000000"
    ∷ []

abbrev text0098 : List String
text0098 =
    "records 29 of 29 refusal 0;t0 insert 21 yes;t1 insert 25 yes;t1 split 29 yes;t2 range 19 yes;0 route 25;1 range 21=0;1 r"
    ∷ "ange 25=0;set 21=0 25=0;stored 2 used 8;"
    ∷ []

computed0098 : quick_printed (file_of file0098) ≡ text_of text0098
unfolding bytes_of record_at between reaches adding back reached_first reached_next asked put take_out merge within lower upper depth_text row_line
    decimal stations_to stations_text route_line base_line set_line list_refusal check replaceable action_word first_line last_line taken stepped
    started record_step run_refusal count_of file_refusal reached onward followed blocked lacks cleared lost probe replaced beside step ite has insert
    remove union cut below from size least drop_least upper_half lower_half split_key ones_in count_trailing_zeros
computed0098 = refl

pub printed0098 : printed (file_of file0098) ≡ text_of text0098
printed0098 = sym (quick_printed_printed (file_of file0098)) ∙ computed0098

-- ---- 0099

abbrev file0099 : List String
file0099 =
    "02002b020b0000000000000000000000000000220c0000200000002000000020000000240e0000200000002000000020000000260b000c2000000020"
    ∷ "000000200000002000000020000000200000002000000020000000200000002000000013100000100000002000000020000000100000001000000010"
    ∷ "00000010000000100000002000000020000000100000001000000010000000100000001000000010000000100000001000000010000000"
    ∷ []

abbrev text0099 : List String
text0099 =
    "records 43 of 43 refusal 0;t0 insert 11 yes;t2 insert 12 yes;t2 split 14 yes;t2 range 11 yes;t1 remove 16 no;0 route 12;"
    ∷ "1 range 11=0;1 normal 12=0;set 11=0 12=0;stored 2 used 9;"
    ∷ []

computed0099 : quick_printed (file_of file0099) ≡ text_of text0099
unfolding bytes_of record_at between reaches adding back reached_first reached_next asked put take_out merge within lower upper depth_text row_line
    decimal stations_to stations_text route_line base_line set_line list_refusal check replaceable action_word first_line last_line taken stepped
    started record_step run_refusal count_of file_refusal reached onward followed blocked lacks cleared lost probe replaced beside step ite has insert
    remove union cut below from size least drop_least upper_half lower_half split_key ones_in count_trailing_zeros
computed0099 = refl

pub printed0099 : printed (file_of file0099) ≡ text_of text0099
printed0099 = sym (quick_printed_printed (file_of file0099)) ∙ computed0099

-- ---- 0100

abbrev file0100 : List String
file0100 =
    "02002a020e00000000000000000000000000001210000004100000100000001000000010000000000000000000000000000000160e003f1000000010"
    ∷ "000000100000001000000010000000100000001000000010000000100000000610001000000000100000001000000010000000000000000000000000"
    ∷ "000000000000000000000000000000000000001000000010000000100000001000000000000000000000000000000000000000"
    ∷ []

abbrev text0100 : List String
text0100 =
    "records 42 of 42 refusal 0;t0 insert 14 yes;t1 insert 16 yes;t0 split 16 yes;t1 range 14 yes;t0 range 16 yes;0 route 16;"
    ∷ "1 range 14=0;1 range 16=0;set 14=0 16=0;stored 2 used 8;"
    ∷ []

computed0100 : quick_printed (file_of file0100) ≡ text_of text0100
unfolding bytes_of record_at between reaches adding back reached_first reached_next asked put take_out merge within lower upper depth_text row_line
    decimal stations_to stations_text route_line base_line set_line list_refusal check replaceable action_word first_line last_line taken stepped
    started record_step run_refusal count_of file_refusal reached onward followed blocked lacks cleared lost probe replaced beside step ite has insert
    remove union cut below from size least drop_least upper_half lower_half split_key ones_in count_trailing_zeros
computed0100 = refl

pub printed0100 : printed (file_of file0100) ≡ text_of text0100
printed0100 = sym (quick_printed_printed (file_of file0100)) ∙ computed0100

-- ---- 0101

abbrev file0101 : List String
file0101 =
    "020026020302800000000000000000000000000209270f00000000000000000000000004030000000000000000000000000000160000021000000010"
    ∷ "000000100000001000000010000000220400002000000020000000200000001000000010000000320500003000000030000000300000003000000030"
    ∷ "0000002000000020000000200000002000000020000000200000002000000020000000"
    ∷ []

abbrev text0101 : List String
text0101 =
    "records 38 of 38 refusal 0;t0 insert 3 yes;t0 insert 9 yes;t0 split 3 yes;t1 range 0 no;t3 insert 5 yes;t2 insert 4 yes;"
    ∷ "0 route 9;1 normal 3=640 4=0 5=0;1 normal 9=9999;set 3=640 4=0 5=0 9=9999;stored 4 used 9;"
    ∷ []

computed0101 : quick_printed (file_of file0101) ≡ text_of text0101
unfolding bytes_of record_at between reaches adding back reached_first reached_next asked put take_out merge within lower upper depth_text row_line
    decimal stations_to stations_text route_line base_line set_line list_refusal check replaceable action_word first_line last_line taken stepped
    started record_step run_refusal count_of file_refusal reached onward followed blocked lacks cleared lost probe replaced beside step ite has insert
    remove union cut below from size least drop_least upper_half lower_half split_key ones_in count_trailing_zeros
computed0101 = refl

pub printed0101 : printed (file_of file0101) ≡ text_of text0101
printed0101 = sym (quick_printed_printed (file_of file0101)) ∙ computed0101

-- ---- 0102

abbrev file0102 : List String
file0102 =
    "0200f8020200020000000000000000000000000204000400000000000000000000000002060006000000000000000000000000020800080000000000"
    ∷ "00000000000000020a000a00000000000000000000000004020000000000000000000000000000040200000000000000000000000000000000000000"
    ∷ "000000040600000000000000000000000000000000000000000000000000000408000000000000000000000000000000000000000000000000000000"
    ∷ "0000001600003f1000000010000000100000001000000010000000100000002604003f20000000200000002000000020000000200000002000000020"
    ∷ "0000003606003f3000000030000000300000003000000030000000300000000608003f00000000000000000000000000000000000000000000000000"
    ∷ "000000100000001000000010000000100000001000000010000000100000001000000010000000100000001000000010000000100000001000000010"
    ∷ "000000100000001000000010000000100000001000000010000000100000001000000010000000100000001000000010000000100000001000000010"
    ∷ "000000100000000000000000000000000000000000000000000000000000000000000000000000000000000000000000000000000000000000000006"
    ∷ "0a003f000000000000000000000000000000000000000000000000000000000000000010000000100000001000000010000000100000001000000010"
    ∷ "000000100000001000000010000000100000001000000010000000100000001000000010000000100000001000000010000000100000001000000010"
    ∷ "000000100000001000000010000000100000001000000010000000100000001000000010000000100000001000000010000000100000001000000010"
    ∷ "000000100000001000000010000000100000001000000010000000100000001000000010000000100000001000000010000000100000001000000010"
    ∷ "000000100000001000000010000000100000001000000010000000100000001000000010000000100000001000000010000000100000001000000010"
    ∷ "000000100000001000000010000000100000001000000010000000100000001000000010000000100000001000000010000000100000001000000010"
    ∷ "000000100000001000000010000000100000001000000010000000100000001000000010000000100000001000000010000000100000001000000010"
    ∷ "000000100000001000000010000000100000001000000020000000200000002000000020000000200000002000000020000000300000003000000030"
    ∷ "0000003000000030000000000000000000000000000000000000000000000000000000"
    ∷ []

abbrev text0102 : List String
text0102 =
    "records 248 of 248 refusal 0;t0 insert 2 yes;t0 insert 4 yes;t0 insert 6 yes;t0 insert 8 yes;t0 insert 10 yes;t0 split 2"
    ∷ " yes;t0 split 2 yes;t0 split 6 yes;t0 split 8 yes;t0 range 8 yes;t1 range 0 yes;t2 range 4 yes;t3 range 6 yes;t0 range 1"
    ∷ "0 yes;0 route 6;1 route 4;2 range 2=2;2 range 4=4;1 route 8;2 range 6=6;2 route 10;3 range 8=8;3 range 10=10;set 2=2 4=4"
    ∷ " 6=6 8=8 10=10;stored 5 used 33;"
    ∷ []

computed0102 : quick_printed (file_of file0102) ≡ text_of text0102
unfolding bytes_of record_at between reaches adding back reached_first reached_next asked put take_out merge within lower upper depth_text row_line
    decimal stations_to stations_text route_line base_line set_line list_refusal check replaceable action_word first_line last_line taken stepped
    started record_step run_refusal count_of file_refusal reached onward followed blocked lacks cleared lost probe replaced beside step ite has insert
    remove union cut below from size least drop_least upper_half lower_half split_key ones_in count_trailing_zeros
computed0102 = refl

pub printed0102 : printed (file_of file0102) ≡ text_of text0102
printed0102 = sym (quick_printed_printed (file_of file0102)) ∙ computed0102
