-- Schedules of tests/vectors and the text that the definitions print for each, computed by the checker. Written by tests/vectors/definitions.
use mathlib.Core.Path.{◌≡◌, refl, sym, ◌∙◌}
use mathlib.Core.List.{List, [], ◌∷◌}
use Prim.Native.String.{String}
use lib.Count.{ones_in, count_trailing_zeros}
use Rattle.container.specs.Choice.{ite}
use Rattle.container.specs.Container.{has, insert, remove, union, cut, below, from, size, least, drop_least, upper_half, lower_half, split_key}
use Rattle.container.specs.Depths.{put, take_out, merge, within, lower, upper}
use Rattle.definitions.specs.Nodes.{check, replaceable}
use Rattle.definitions.specs.Frames.{between, reaches, adding, back}
use Rattle.definitions.specs.Steps.{reached, onward, followed, blocked, lacks, cleared, lost, probe, replaced, beside, reached_first, reached_next, step}
use Rattle.definitions.specs.Records.{taken, stepped, started, asked, record_step}
use Rattle.definitions.specs.Schedule.{count_of, record_at, file_refusal}
use Rattle.definitions.specs.Run.{bytes_of, run_refusal}
use Rattle.definitions.specs.Listing.{decimal, stations_to, stations_text, route_line, base_line, set_line, list_refusal}
use Rattle.definitions.specs.Printed.{action_word, first_line, depth_text, row_line, last_line, printed}
use Rattle.definitions.proofs.Quick.{quick_printed, quick_printed_printed}
use Rattle.vectors.proofs.Written.{file_of, text_of}

-- ---- 0061

abbrev file0061 : List String
file0061 =
    "02000402090280000000000000000000000000"
    ∷ []

abbrev text0061 : List String
text0061 =
    "records 4 of 4 refusal 0;t0 insert 9 yes;0 normal 9=640;set 9=640;stored 1 used 2;"
    ∷ []

computed0061 : quick_printed (file_of file0061) ≡ text_of text0061
unfolding bytes_of record_at between reaches adding back reached_first reached_next asked put take_out merge within lower upper depth_text row_line
    decimal stations_to stations_text route_line base_line set_line list_refusal check replaceable action_word first_line last_line taken stepped
    started record_step run_refusal count_of file_refusal reached onward followed blocked lacks cleared lost probe replaced beside step ite has insert
    remove union cut below from size least drop_least upper_half lower_half split_key ones_in count_trailing_zeros
computed0061 = refl

pub printed0061 : printed (file_of file0061) ≡ text_of text0061
printed0061 = sym (quick_printed_printed (file_of file0061)) ∙ computed0061

-- ---- 0062

abbrev file0062 : List String
file0062 =
    "02001202030280000000000000000000000000020904e200000000000000000000000004030000000000000000000000000000110300001000000010"
    ∷ "000000110400001000000010000000"
    ∷ []

abbrev text0062 : List String
text0062 =
    "records 18 of 18 refusal 0;t0 insert 3 yes;t0 insert 9 yes;t0 split 3 yes;t1 lookup 3 yes 640;t1 lookup 4 no;0 route 9;1"
    ∷ " normal 3=640;1 normal 9=1250;set 3=640 9=1250;stored 2 used 6;"
    ∷ []

computed0062 : quick_printed (file_of file0062) ≡ text_of text0062
unfolding bytes_of record_at between reaches adding back reached_first reached_next asked put take_out merge within lower upper depth_text row_line
    decimal stations_to stations_text route_line base_line set_line list_refusal check replaceable action_word first_line last_line taken stepped
    started record_step run_refusal count_of file_refusal reached onward followed blocked lacks cleared lost probe replaced beside step ite has insert
    remove union cut below from size least drop_least upper_half lower_half split_key ones_in count_trailing_zeros
computed0062 = refl

pub printed0062 : printed (file_of file0062) ≡ text_of text0062
printed0062 = sym (quick_printed_printed (file_of file0062)) ∙ computed0062

-- ---- 0063

abbrev file0063 : List String
file0063 =
    "02000a02090280000000000000000000000000120900071000000010000000100000002109000020000000"
    ∷ []

abbrev text0063 : List String
text0063 =
    "records 10 of 10 refusal 0;t0 insert 9 yes;t1 insert 9 no;t2 lookup 9 yes 7;0 normal 9=7;set 9=7;stored 1 used 3;"
    ∷ []

computed0063 : quick_printed (file_of file0063) ≡ text_of text0063
unfolding bytes_of record_at between reaches adding back reached_first reached_next asked put take_out merge within lower upper depth_text row_line
    decimal stations_to stations_text route_line base_line set_line list_refusal check replaceable action_word first_line last_line taken stepped
    started record_step run_refusal count_of file_refusal reached onward followed blocked lacks cleared lost probe replaced beside step ite has insert
    remove union cut below from size least drop_least upper_half lower_half split_key ones_in count_trailing_zeros
computed0063 = refl

pub printed0063 : printed (file_of file0063) ≡ text_of text0063
printed0063 = sym (quick_printed_printed (file_of file0063)) ∙ computed0063

-- ---- 0064

abbrev file0064 : List String
file0064 =
    "02000c02000000000000000000000000000000123f270f1000000010000000100000002100000020000000313f000030000000"
    ∷ []

abbrev text0064 : List String
text0064 =
    "records 12 of 12 refusal 0;t0 insert 0 yes;t1 insert 63 yes;t2 lookup 0 yes 0;t3 lookup 63 yes 9999;0 normal 0=0 63=9999"
    ∷ ";set 0=0 63=9999;stored 2 used 3;"
    ∷ []

computed0064 : quick_printed (file_of file0064) ≡ text_of text0064
unfolding bytes_of record_at between reaches adding back reached_first reached_next asked put take_out merge within lower upper depth_text row_line
    decimal stations_to stations_text route_line base_line set_line list_refusal check replaceable action_word first_line last_line taken stepped
    started record_step run_refusal count_of file_refusal reached onward followed blocked lacks cleared lost probe replaced beside step ite has insert
    remove union cut below from size least drop_least upper_half lower_half split_key ones_in count_trailing_zeros
computed0064 = refl

pub printed0064 : printed (file_of file0064) ≡ text_of text0064
printed0064 = sym (quick_printed_printed (file_of file0064)) ∙ computed0064

-- ---- 0065

abbrev file0065 : List String
file0065 =
    "020010020902800000000000000000000000001309000010000000100000001000000021090000200000001209000010000000100000001000000021"
    ∷ "09000020000000"
    ∷ []

abbrev text0065 : List String
text0065 =
    "records 16 of 16 refusal 0;t0 insert 9 yes;t1 remove 9 yes;t2 lookup 9 no;t1 insert 9 yes;t2 lookup 9 yes 0;0 normal 9=0"
    ∷ ";set 9=0;stored 1 used 4;"
    ∷ []

computed0065 : quick_printed (file_of file0065) ≡ text_of text0065
unfolding bytes_of record_at between reaches adding back reached_first reached_next asked put take_out merge within lower upper depth_text row_line
    decimal stations_to stations_text route_line base_line set_line list_refusal check replaceable action_word first_line last_line taken stepped
    started record_step run_refusal count_of file_refusal reached onward followed blocked lacks cleared lost probe replaced beside step ite has insert
    remove union cut below from size least drop_least upper_half lower_half split_key ones_in count_trailing_zeros
computed0065 = refl

pub printed0065 : printed (file_of file0065) ≡ text_of text0065
printed0065 = sym (quick_printed_printed (file_of file0065)) ∙ computed0065

-- ---- 0066

abbrev file0066 : List String
file0066 =
    "02002202030280000000000000000000000000020904e200000000000000000000000004030000000000000000000000000000050300000000000000"
    ∷ "000000000000000000000000000000000000000000000000000000000000000000000000000000000000000000000000000000000000000000000000"
    ∷ "00000000000000000000000000000000000000"
    ∷ []

abbrev text0066 : List String
text0066 =
    "records 34 of 34 refusal 0;t0 insert 3 yes;t0 insert 9 yes;t0 split 3 yes;t0 join 3 yes;0 neighbour 3=640 9=1250;set 3=6"
    ∷ "40 9=1250;stored 2 used 9;"
    ∷ []

computed0066 : quick_printed (file_of file0066) ≡ text_of text0066
unfolding bytes_of record_at between reaches adding back reached_first reached_next asked put take_out merge within lower upper depth_text row_line
    decimal stations_to stations_text route_line base_line set_line list_refusal check replaceable action_word first_line last_line taken stepped
    started record_step run_refusal count_of file_refusal reached onward followed blocked lacks cleared lost probe replaced beside step ite has insert
    remove union cut below from size least drop_least upper_half lower_half split_key ones_in count_trailing_zeros
computed0066 = refl

pub printed0066 : printed (file_of file0066) ≡ text_of text0066
printed0066 = sym (quick_printed_printed (file_of file0066)) ∙ computed0066
